-- Lists that are appended one after the other.
use Rattle.std.proofs.Common.{◌≡◌, ℕ, List, ◌++◌, append_assoc}

pub two_more : (o a b : List ℕ) → (o ++ a) ++ b ≡ o ++ (a ++ b)
two_more o a b = simp append_assoc

pub three_more : (o a b c : List ℕ) → ((o ++ a) ++ b) ++ c ≡ o ++ (a ++ (b ++ c))
three_more o a b c = simp append_assoc

-- an `if` with two branches, and with the second alone
pub if_else : (o c i a e b n : List ℕ) → (((((o ++ c) ++ i) ++ a) ++ e) ++ b) ++ n ≡ o ++ (c ++ (i ++ (a ++ ((e ++ b) ++ n))))
if_else o c i a e b n = simp append_assoc

pub else_alone : (o c i e b n : List ℕ) → ((((o ++ c) ++ i) ++ e) ++ b) ++ n ≡ o ++ (c ++ (i ++ ((e ++ b) ++ n)))
else_alone o c i e b n = simp append_assoc
