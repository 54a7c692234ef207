-- Numbers as bytes: the little end first, or the big end.
--     number_in e n bs    the number in the first n bytes
--     bytes_in e n x      the lowest n bytes of a number
use Rattle.std.specs.Prelude.{ℕ, zero, suc, ◌+◌, ◌*◌, ◌^◌, List, slice_index}
use Rattle.std.specs.Int.{bytes_high_first, bytes_low_first}
use Rattle.isp_files.specs.declared.endian.Endian.{Endian}
use Rattle.isp_files.specs.declared.endian.Endian.TheVariants.{Little, Big}

-- the byte at place i is worth 256 ^ i
abbrev pub little_number : ℕ → List ℕ → ℕ
little_number zero bs = 0
little_number (suc n) bs = little_number n bs + slice_index bs n * 256 ^ n

-- each byte is worth 256 times as much as the next
abbrev pub big_number : ℕ → List ℕ → ℕ
big_number zero bs = 0
big_number (suc n) bs = big_number n bs * 256 + slice_index bs n

abbrev pub number_in : Endian → ℕ → List ℕ → ℕ
number_in Little n bs = little_number n bs
number_in Big n bs = big_number n bs

abbrev pub little_bytes : ℕ → ℕ → List ℕ
little_bytes n x = bytes_low_first 0 n x

abbrev pub big_bytes : ℕ → ℕ → List ℕ
big_bytes n x = bytes_high_first n x

abbrev pub bytes_in : Endian → ℕ → ℕ → List ℕ
bytes_in Little n x = little_bytes n x
bytes_in Big n x = big_bytes n x
