-- A run as lines, one for each step:
--     3 share L3: mtest m3 v2 m0 m0=1111 -> m3=1110
-- the number of the step, the function, the number of the instruction, its line of code text, the masks that it reads as
-- they are before it, and after an arrow what it wrote: a mask, or a vector where lanes are wanted.
use Rattle.std.specs.Prelude.{ℕ, zero, suc, List, [], ◌∷◌, ◌++◌, codes, Option, Some, None, Bool, true, false, ◌&&◌, if◌then◌else◌, slice_get, slice_index_or}
use Rattle.std.specs.Fmt.{decimal}
use Rattle.std.specs.List.{flat_map, range_with_len}
use Rattle.isp_asm.specs.Rows.{instr_words}
use Rattle.isp_asm.specs.Spelling.{spaced}
use Rattle.isp_base.specs.Prints.{list_text}
use Rattle.isp_base.specs.Sets.{Mask}
use Rattle.isp_base.specs.Types.{gang_width}
use Rattle.isp_base.specs.declared.types.Elem.{Elem}
use Rattle.isp_base.specs.declared.types.Elem.TheVariants.{Bool as Truth}
use Rattle.isp_code.specs.Conf.{Conf, State, Runs, Trapped, Ended}
use Rattle.isp_code.specs.Listing.{Listing, Routine}
use Rattle.isp_code.specs.Machine.{after}
use Rattle.isp_code.specs.Registers.{vectors_of}
use Rattle.isp_code.specs.declared.instr.Instr.{Instr}
use Rattle.isp_code.specs.declared.register.Class.TheVariants as class
use Rattle.isp_code.specs.declared.register.Register.{Register}
use Rattle.isp_machine.specs.Seen.{has_register}
use Rattle.isp_traces.specs.Operands.{read_masks, written_mask, written_lanes}
use Rattle.isp_traces.specs.Executed.{mask_held}
use Rattle.isp_traces.specs.declared.masks.Written.{Written}

-- the words of a line of code text with one space between them
abbrev pub words_text : List (List ℕ) → List ℕ
words_text [] = []
words_text (w ∷ ws) = w ++ flat_map spaced ws

-- the first n lanes of a set, 1 for a lane that is on
abbrev pub flag_text : Bool → List ℕ
flag_text true = codes "1"
flag_text false = codes "0"

abbrev pub flags_text : Mask → ℕ → List ℕ
flags_text a zero = []
flags_text a (suc n) = flags_text a n ++ flag_text (a n)

module _ (code : Listing) where
  -- ` m3=1110`
  abbrev pub mask_text : Conf → Register → List ℕ
  mask_text c k = codes " m" ++ decimal k.number ++ codes "=" ++ flags_text (mask_held code c k) (gang_width code.gang)

  -- the values of a vector in the lanes of a mask, where the function has them
  abbrev pub lanes_held : Conf → Written → ℕ → Option ℕ
  lanes_held c w p = if mask_held code c w.mask p && has_register (slice_get code.routines c.home.fn) class.Vector w.vector.number then Some (c.vectors w.vector.number p) else None

  -- ` -> v0=[0,1,2,_]`, as `print` shows a vector
  abbrev pub vector_text : List Elem → Conf → Option Written → List ℕ
  vector_text ts c None = []
  vector_text ts c (Some w) = codes " -> v" ++ decimal w.vector.number ++ codes "=" ++ list_text (slice_index_or ts w.vector.number Truth) (gang_width code.gang) (lanes_held c w)

  -- ` -> m3=1110`
  abbrev pub new_mask_text : Conf → Option Register → List ℕ
  new_mask_text c None = []
  new_mask_text c (Some d) = codes " ->" ++ mask_text c d

  -- what an instruction of a function shows before its step, and after it, where control goes on
  abbrev pub before_text : ℕ → Routine → Conf → Instr → List ℕ
  before_text number h c i = decimal number ++ codes " " ++ h.name ++ codes " L" ++ decimal c.pc ++ codes ": " ++ words_text (instr_words i) ++ flat_map (mask_text c) (read_masks i)

  abbrev pub after_text : Bool → Routine → Instr → State → List ℕ
  after_text lanes h i (Runs c) = new_mask_text c (written_mask i) ++ (if lanes then vector_text (vectors_of h) c (written_lanes i) else [])
  after_text lanes h i (Trapped t c) = []
  after_text lanes h i (Ended x c) = []

  abbrev pub line_of : Bool → ℕ → Routine → Conf → State → Option Instr → List ℕ
  line_of lanes number h c s None = []
  line_of lanes number h c s (Some i) = before_text number h c i ++ after_text lanes h i s ++ 10 ∷ []

  abbrev pub line_in : Bool → ℕ → Conf → State → Option Routine → List ℕ
  line_in lanes number c s None = []
  line_in lanes number c s (Some h) = line_of lanes number h c s (slice_get h.code c.pc)

  -- the line of the step with this number from one state to the next; there is none from an end
  abbrev pub line_between : Bool → ℕ → State → State → List ℕ
  line_between lanes number (Runs c) s = line_in lanes number c s (slice_get code.routines c.home.fn)
  line_between lanes number (Trapped t c) s = []
  line_between lanes number (Ended x c) s = []

  abbrev pub line : Bool → State → ℕ → List ℕ
  line lanes s number = line_between lanes number (after code number s) (after code (suc number) s)

  -- the lines of n steps, from number `from` on
  abbrev pub lines : Bool → State → ℕ → ℕ → List ℕ
  lines lanes s from n = flat_map (line lanes s) (range_with_len from n)
