-- LEB128 as it is read: 5.2.2 of the core specification of WebAssembly 2.0.
use Rattle.std.specs.Prelude.{◌≡◌, ℕ, ◌+◌, ◌-◌, ◌*◌, ◌%◌, ◌^◌, ◌<◌, ◌≤◌, List, [], ◌∷◌, length, if◌then◌else◌, nat_lt}
use Rattle.isp_wasm_binary.specs.Numbers.{u32, i32, i64}

-- each byte but the last says that more follow
abbrev pub IsEnded : List ℕ → Type 0
IsEnded [] = ⊥
IsEnded (b ∷ []) = b < 128
IsEnded (b ∷ c ∷ bs) = (128 ≤ b) × (b < 256) × IsEnded (c ∷ bs)

-- the number that they say, 7 bits each, the lowest first
abbrev pub number : List ℕ → ℕ
number [] = 0
number (b ∷ bs) = b % 128 + 128 * number bs

-- the same with a sign, which is the highest of the last 7 bits; by its w bits
abbrev pub signed_number : ℕ → List ℕ → ℕ
signed_number w [] = 0
signed_number w (b ∷ []) = if nat_lt b 64 then b else b + 2 ^ w - 128
signed_number w (b ∷ c ∷ bs) = b % 128 + 128 * signed_number (w - 7) (c ∷ bs)

-- bytes that say n, and no fewer bytes say it
pub record Says (value : List ℕ → ℕ) (n : ℕ) (said : List ℕ) : Type 0 where
  pub ended : IsEnded said
  pub is : value said ≡ n
  pub least : (bs : List ℕ) → IsEnded bs → value bs ≡ n → length said ≤ length bs

pub record NumbersAreSaid : Type 0 where
  pub unsigned : (n : ℕ) → n < 2 ^ 32 → Says number n (u32 n)
  pub signed : (n : ℕ) → n < 2 ^ 32 → Says (signed_number 32) n (i32 n)
  pub long : (n : ℕ) → n < 2 ^ 64 → Says (signed_number 64) n (i64 n)
