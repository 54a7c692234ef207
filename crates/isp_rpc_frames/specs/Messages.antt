-- Messages of JSON-RPC in a stream of bytes, as the base protocol of the language server protocol 3.17 frames them: header
-- fields as those of HTTP, an empty line, and the content, whose length a field gives.
--     Content-Length: 2\r\n
--     \r\n
--     {}
use Rattle.std.specs.Prelude.{◌≡◌, ℕ, ◌+◌, ◌-◌, ◌<◌, ◌≤◌, ◌&&◌, ◌⊎◌, List, [], ◌∷◌, length, map, drop, nat_lt, codes, Option, Some, None, Result, Ok, Err, if◌then◌else◌}
use Rattle.std.specs.Char.{to_ascii_lowercase}
use Rattle.std.specs.Str.{all_ascii_digits}
use Rattle.std.specs.Str.Parse.{digits_value}
use Rattle.httparse.specs.Grammar.{Field, HasNoSection, LineEnd, MayBecomeSection, ReadsSection}
use Rattle.httparse.specs.Spans.{SectionOverflows, name_and_value}
use Rattle.isp_rpc_frames.specs.declared.frame.Framed.{Framed}
use Rattle.isp_rpc_frames.specs.declared.frame.Framed.TheVariants.{Message, Part}
use Rattle.isp_rpc_frames.specs.declared.frame.FrameFault.{FrameFault}
use Rattle.isp_rpc_frames.specs.declared.frame.FrameFault.TheVariants.{Header, Length, LongHeader}

-- the name of the field that gives the length, in capitals or not
abbrev pub IsLengthName : List ℕ → Type 0
IsLengthName name = map to_ascii_lowercase name ≡ codes "content-length"

-- decimal digits, for a number below 100,000,000
abbrev pub number : List ℕ → Option ℕ
number value = let n = digits_value 10 value in if nat_lt 0 (length value) && all_ascii_digits value && nat_lt n 100000000 then Some n else None

-- what the first field of that name says; fields as name and value
abbrev pub GivesLength : List (List ℕ × List ℕ) → Option ℕ → Type 0
GivesLength [] given = given ≡ None
GivesLength ((name, value) ∷ rest) given = (IsLengthName name × (given ≡ number value)) ⊎ (¬ (IsLengthName name) × GivesLength rest given)

-- the bytes begin with a header of some fields, after which the content starts
pub record HasHeader (bytes : List ℕ) (start : ℕ) (size : Option ℕ) : Type 0 where
  pub fields : List Field
  pub last : LineEnd
  pub reads : ReadsSection bytes fields last (drop start bytes)
  pub there : start ≤ length bytes
  pub given : GivesLength (map name_and_value fields) size

-- the content of the first message is the bytes from start up to end
pub record IsMessage (bytes : List ℕ) (start end : ℕ) : Type 0 where
  pub header : HasHeader bytes start (Some (end - start))
  pub ordered : start ≤ end
  pub there : end ≤ length bytes

-- a header that has not ended, and is not too long; or a content that has not
pub data IsPart (bytes : List ℕ) : Type 0 where
  in_header : HasNoSection bytes → MayBecomeSection bytes → length bytes ≤ 8192 → IsPart bytes
  in_content : (start size : ℕ) → HasHeader bytes start (Some size) → length bytes < start + size → IsPart bytes

-- no header of at most eight fields begins so; its end is not in 8,192 bytes; no field gives a length
abbrev pub IsBroken : List ℕ → FrameFault → Type 0
IsBroken bytes Header = SectionOverflows 8 bytes
IsBroken bytes LongHeader = HasNoSection bytes × (8192 < length bytes)
IsBroken bytes Length = (start : ℕ) × HasHeader bytes start None

abbrev pub Frames : List ℕ → Result Framed FrameFault → Type 0
Frames bytes (Ok (Message start end)) = IsMessage bytes start end
Frames bytes (Ok Part) = IsPart bytes
Frames bytes (Err fault) = IsBroken bytes fault
