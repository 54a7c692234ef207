-- Numbers and lists as bytes: chapters 5.1 and 5.2 of the core specification of WebAssembly 2.0.
use Rattle.std.specs.Prelude.{ℕ, zero, suc, ◌+◌, ◌-◌, ◌/◌, ◌%◌, ◌^◌, List, [], ◌∷◌, ◌++◌, length, Bool, true, false, if◌then◌else◌, nat_lt, nat_le, ◌||◌}
use Rattle.std.specs.List.{flat_map}

-- 5.2.2 uN, unsigned LEB128: the low 7 bits, with 128 added where more follow; so many more may follow
unfoldable pub groups : ℕ → ℕ → List ℕ
groups zero n = n ∷ []
groups (suc k) n = elim (nat_lt n 128) [ true ↦ n ∷ [] | false ↦ (128 + n % 128) ∷ groups k (n / 128) ]

-- a number of 32 bits has at most 5 bytes
unfoldable pub u32 : ℕ → List ℕ
u32 n = groups 4 n

-- whether a number, by its w bits, is from -64 to 63, and the one byte that it is then
abbrev pub is_small : ℕ → ℕ → Bool
is_small w x = nat_lt x 64 || nat_le (2 ^ w) (x + 64)

abbrev pub last : ℕ → ℕ → List ℕ
last w x = (if nat_lt x (2 ^ (w - 1)) then x else x + 128 - 2 ^ w) ∷ []

-- 5.2.2 sN, signed LEB128, of a number given by its w bits; after each byte 7 fewer are left
unfoldable pub signed_groups : ℕ → ℕ → ℕ → List ℕ
signed_groups zero w x = last w x
signed_groups (suc k) w x = elim (is_small w x) [ true ↦ last w x | false ↦ (128 + x % 128) ∷ signed_groups k (w - 7) (x / 128) ]

-- 5.2.2 iN: as the signed number with these bits
unfoldable pub i32 : ℕ → List ℕ
i32 n = signed_groups 4 32 (n % 2 ^ 32)

unfoldable pub i64 : ℕ → List ℕ
i64 n = signed_groups 9 64 (n % 2 ^ 64)

-- so many bytes, the lowest first
unfoldable pub low_bytes : ℕ → ℕ → List ℕ
low_bytes zero n = []
low_bytes (suc k) n = n % 256 ∷ low_bytes k (n / 256)

-- a v128: its 16 bytes
unfoldable pub v128 : ℕ → List ℕ
v128 n = low_bytes 16 (n % 2 ^ 128)

-- 5.1.3 vectors: how many there are, and then each
abbrev pub vector : {A : Type 0} → (A → List ℕ) → List A → List ℕ
vector f xs = u32 (length xs) ++ flat_map f xs

-- 5.2.1 bytes; 5.2.4 names, which are their bytes in UTF-8
abbrev pub byte : ℕ → List ℕ
byte b = b ∷ []

abbrev pub bytes : List ℕ → List ℕ
bytes bs = u32 (length bs) ++ bs
