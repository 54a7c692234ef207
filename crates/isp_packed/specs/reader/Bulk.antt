-- For private clauses: the elements of an array, read all at once.
use Rattle.std.specs.Prelude.{ℕ, zero, suc, ◌+◌, ◌*◌, ◌^◌, ◌<◌, ◌≤◌, List, [], ◌∷◌, length, drop}
use Rattle.byteorder.specs.Endian.{little_number}
use Rattle.isp_base.specs.Values.{width}
use Rattle.isp_base.specs.declared.types.Elem.{Elem}

-- the first c numbers of n bytes each
abbrev pub numbers : ℕ → ℕ → List ℕ → List ℕ
numbers n zero bs = []
numbers n (suc c) bs = little_number n bs ∷ numbers n c (drop n bs)

-- the type has each of the first c numbers that the bytes hold whole
abbrev pub EachFits : ℕ → Elem → ℕ → List ℕ → Type 0
EachFits n t c bs = (k : ℕ) → k < c → n * k + n ≤ length bs → little_number n (drop (n * k) bs) < 2 ^ width t
