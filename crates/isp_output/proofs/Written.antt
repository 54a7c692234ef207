-- What a sink holds after two writes.
use Rattle.std.proofs.Common.{◌≡◌, ◌++◌, ◌+◌, ℕ, List, [], Bool, min, Result, Ok, Err, OnErr, Option, None, Some, refl, sym, ap, ◌∙◌}
use Rattle.std.proofs.Common.{append_assoc, append-nil, take, drop, length, ◌-◌, arith}
use Rattle.std.proofs.lemmas.Grind.{common_steps}
use Rattle.std.proofs.Math.Seq.{take-add, take-append-add}
use Rattle.std.proofs.lemmas.List.{take-append-le, take_min}
use Rattle.isp_output.specs.Sinks.{adds, TookAll, TookSome}

pub adds_adds : (xs ys : List ℕ) (held : Option (List ℕ)) → adds ys (adds xs held) ≡ adds (xs ++ ys) held
adds_adds xs ys None = refl
adds_adds xs ys (Some held) = ap Some (append_assoc held xs ys)

pub adds_nil : (held : Option (List ℕ)) → adds [] held ≡ held
adds_nil None = refl
adds_nil (Some held) = ap Some (append-nil held)

pub rest_is : (xs : List ℕ) (t : ℕ) → take (length xs - t) (drop t xs) ≡ drop t xs
rest_is xs t = grind (arith, common_steps)

-- the first t bytes, and then c more
pub adds_more : (xs : List ℕ) (t c : ℕ) (old mid new : Option (List ℕ)) → mid ≡ adds (take t xs) old → new ≡ adds (take c (take (length xs - t) (drop t xs))) mid → new ≡ adds (take (t + c) xs) old
adds_more xs t c old mid new h k =
    k
    ∙ ap (λ z. adds (take c z) mid) (rest_is xs t)
    ∙ ap (adds (take c (drop t xs))) h
    ∙ adds_adds (take t xs) (take c (drop t xs)) old
    ∙ ap (λ z. adds z old) (sym (take-add t c xs))

-- two writes, both whole
pub took_both : (xs ys : List ℕ) (old mid new : Option (List ℕ)) (f g : Bool) → TookAll xs old mid f → TookAll ys mid new g → TookAll (xs ++ ys) old new g
took_both xs ys old mid new f g h k =
    (k.0 ∙ ap (adds ys) h.0 ∙ adds_adds xs ys old, k.1)

-- the first whole, and part of the second
pub took_later : (xs ys : List ℕ) (old mid new : Option (List ℕ)) (f g : Bool) → TookAll xs old mid f → TookSome ys mid new g → TookSome (xs ++ ys) old new g
took_later xs ys old mid new f g h k =
    let n = k.0.0 in
    ((length xs + n, k.0.1 ∙ ap (adds (take n ys)) h.0 ∙ adds_adds xs (take n ys) old ∙ ap (λ z. adds z old) (sym (take-append-add xs ys n))), k.1)

-- part of the first
pub took_early : (xs ys : List ℕ) (old new : Option (List ℕ)) (f : Bool) → TookSome xs old new f → TookSome (xs ++ ys) old new f
took_early xs ys old new f h =
    let n = h.0.0 in
    ((min n (length xs), h.0.1 ∙ ap (λ z. adds z old) (sym (front n))), h.1)
  where
    front : (n : ℕ) → take (min n (length xs)) (xs ++ ys) ≡ take n xs
    front n = take-append-le (min n (length xs)) xs ys (omega arith) ∙ take_min n xs

pub on_err : {T E Q : Type 0} (r : Result T E) → Q → OnErr r Q
on_err (Ok x) q = tt
on_err (Err e) q = q
