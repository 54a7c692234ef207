-- A line that fits has no fault where it may stand, and its words are plain.
use Rattle.std.specs.Prelude.{◌≡◌, ℕ, suc, ◌-◌, ◌<◌, ◌^◌, Bool, true, false, ◌&&◌, nat_le, nat_lt, nat_eq, length, List, [], ◌∷◌, ◌++◌, map, replicate, Option, Some, None, codes, if◌then◌else◌}
use Rattle.std.specs.Fmt.{decimal}
use Rattle.std.specs.List.{list_all}
use Rattle.std.proofs.Common.{refl, subst, arith}
use Rattle.std.proofs.lemmas.Bool.{and_parts, leb-true}
use Rattle.std.proofs.lemmas.Bool.Decides.{nat_tests}
use Rattle.std.proofs.lemmas.Fmt.{digits_value-decimal}
use Rattle.isp_base.specs.Types.{gang_width}
use Rattle.isp_base.specs.declared.types.Elem.{Elem}
use Rattle.isp_base.specs.declared.types.Gang.{Gang}
use Rattle.isp_base.specs.declared.types.Gang.TheVariants.{W4, W8, W16, W32}
use Rattle.isp_base.specs.declared.types.Span.{Span}
use Rattle.isp_code.specs.Writable.{number_fits, register_fits, result_fits, call_fits, place_fits, source_limit, name_fits, local_fits}
use Rattle.isp_code.specs.declared.function.Local.{Local}
use Rattle.isp_code.specs.declared.function.ParamKind.{ParamKind}
use Rattle.isp_code.specs.declared.function.ParamKind.TheVariants as kind
use Rattle.isp_code.specs.declared.function.Returns.{Returns}
use Rattle.isp_code.specs.declared.function.Returns.TheVariants as returns
use Rattle.isp_code.specs.declared.function.Sharing.{Sharing}
use Rattle.isp_code.specs.declared.function.Sharing.TheVariants.{Shared, PerInstance}
use Rattle.isp_code.specs.declared.instr.Call.{Call}
use Rattle.isp_code.specs.declared.register.Register.{Register}
use Rattle.isp_asm.specs.declared.head.Head.{Head}
use Rattle.isp_asm.specs.declared.head.Head.TheVariants as head
use Rattle.isp_asm.specs.declared.row.Tail.{Tail}
use Rattle.isp_asm.specs.declared.row.Tail.TheVariants as tail
use Rattle.isp_asm.specs.Faults.{Seen, is_plain, has_room, whole_fault, words_line_fault, after_words, after_kind}
use Rattle.isp_asm.specs.Forms.{Form, NumberIn, Lettered, Back, OneOf, Name, Hex, forms_at, ending_forms, register, place, a_type, func_front, is_version, is_gang, is_size}
use Rattle.isp_asm.specs.Heads.{heads, head_word, first_spelled}
use Rattle.isp_asm.specs.Order.{kind_of, may_follow}
use Rattle.isp_asm.specs.Rows.{Row, line, call, row, row_words, tail_words}
use Rattle.isp_asm.specs.Spelling as says
use Rattle.isp_asm.specs.Spelling.{Line, version_of, line_words, export_word, kind_word, sharing_word, returns_words}
use Rattle.isp_asm.specs.Words.{register_word, type_word, function_word, back_word, place_word, hex_word}
use Rattle.isp_asm.specs.reader.Reading.{ending_of, line_fits, line_head, row_head, tail_fits}
use Rattle.isp_asm.proofs.HeadLaws.{head_found}
use Rattle.isp_asm.proofs.HeaderReadings.{version_value, width_value, version_goes}
use Rattle.isp_asm.proofs.Numerals.{own, number_lt}
use Rattle.isp_asm.proofs.RowLaws.{HasForms, one_register, row_fit, row_fits, row_forms}
use Rattle.isp_asm.proofs.Rights.{Right, AllRight, right-append, no_words_fault, all_plain, number_right, lettered_right, label_right, register_right, registers_right, back_right, constant_right, type_right, types_right, name_right, hex_right}
use Rattle.isp_asm.proofs.Splits.{are_words}

-- the words of heads are plain
head_plain : (h : Head) → is_plain (head_word h) ≡ true
head_plain h = listed heads refl (head_found h)
  where
    at_one : (g : Head) (w : List ℕ) (next : Option Head) (t : Bool) → is_plain (head_word g) ≡ true → (next ≡ Some h → is_plain (head_word h) ≡ true) → (if t then Some g else next) ≡ Some h → is_plain (head_word h) ≡ true
    at_one g w next true p more e = let i : g ≡ h = cc in subst (λ (j : Head). is_plain (head_word j) ≡ true) i p
    at_one g w next false p more e = more e

    listed : (hs : List Head) → list_all (λ g. is_plain (head_word g)) hs ≡ true → first_spelled hs (head_word h) ≡ Some h → is_plain (head_word h) ≡ true
    listed [] k e = absurd cc
    listed (g ∷ gs) k e =
        let q = and_parts (is_plain (head_word g)) (list_all (λ g. is_plain (head_word g)) gs) k in
        at_one g (head_word h) (first_spelled gs (head_word h)) _ q.0 (listed gs q.1) e

-- the words after the head of a line
abbrev row_operands : Row → List (List ℕ)
row_operands (line o rs t) = map register_word rs ++ tail_words t
row_operands (call c) = function_word c.function ∷ back_word c.result ∷ register_word c.mask ∷ place_word c.place ∷ map register_word c.arguments

-- what stands after the first word is right for that word
pub record Operands (h : Head) (ws : List (List ℕ)) : Type 0 where
  pub forms : List Form
  pub known : forms_at h (length ws) ≡ Some forms
  pub right : AllRight forms ws
  pub whole : whole_fault h ws ≡ None

-- a line whose first word is that of a head
pub record Spelled (h : Head) (all : List (List ℕ)) : Type 0 where
  pub operands : List (List ℕ)
  pub is : all ≡ head_word h ∷ operands
  pub fine : Operands h operands

version_right : (g : Gang) → Right (NumberIn is_version) (decimal (version_of g))
version_right W4 = number_right is_version 1 (omega arith) refl
version_right W8 = number_right is_version 1 (omega arith) refl
version_right W16 = number_right is_version 1 (omega arith) refl
version_right W32 = number_right is_version 2 (omega arith) refl

gang_right : (g : Gang) → Right (NumberIn is_gang) (decimal (gang_width g))
gang_right W4 = number_right is_gang 4 (omega arith) refl
gang_right W8 = number_right is_gang 8 (omega arith) refl
gang_right W16 = number_right is_gang 16 (omega arith) refl
gang_right W32 = number_right is_gang 32 (omega arith) refl

header_right : (g : Gang) → Operands head.Isp (decimal (version_of g) ∷ codes "gang" ∷ decimal (gang_width g) ∷ [])
header_right g =
    record {
      forms = NumberIn is_version ∷ OneOf (codes "gang" ∷ []) ∷ NumberIn is_gang ∷ [];
      known = refl;
      right = (version_right g, ((refl, refl), (gang_right g, tt)));
      whole = rw (version_value g, width_value g, version_goes g) refl;
    }

place_right : (s : Span) → place_fits s ≡ true → Operands head.Place (decimal s.start ∷ decimal s.end ∷ [])
place_right s h =
    let q = and_parts (nat_le s.start s.end) (nat_le s.end source_limit) h in
    let l = leb-true s.start s.end q.0 in
    let k = leb-true s.end source_limit q.1 in
    let a : s.start < 2 ^ 64 = omega (arith, l, k) in
    let b : s.end < 2 ^ 64 = omega (arith, k) in
    record {
      forms = NumberIn number_fits ∷ NumberIn number_fits ∷ [];
      known = refl;
      right = (number_right number_fits s.start a (in_range s.start (omega (arith, l, k))), (number_right number_fits s.end b (in_range s.end (omega (arith, k))), tt));
      whole = rw (digits_value-decimal own s.start a, digits_value-decimal own s.end b, h) refl;
    }
  where
    in_range : (n : ℕ) → n < 2 ^ 32 → number_fits n ≡ true
    in_range n l = grind (arith, nat_tests)

export_right : (e : Bool) → Right (OneOf (codes "export" ∷ codes "inner" ∷ [])) (export_word e)
export_right true = (refl, refl)
export_right false = (refl, refl)

func_right : (name : List ℕ) (e : Bool) (r : Returns) → name_fits name ≡ true → Operands head.Func (name ∷ export_word e ∷ returns_words r)
func_right name e returns.Nothing h =
    record { forms = func_front ++ OneOf (codes "void" ∷ []) ∷ []; known = refl; right = (name_right name h, (export_right e, ((refl, refl), tt))); whole = refl }
func_right name e (returns.Scalar t) h =
    record { forms = func_front ++ OneOf (codes "s" ∷ codes "v" ∷ []) ∷ a_type ∷ []; known = refl; right = (name_right name h, (export_right e, ((refl, refl), (type_right t, tt)))); whole = refl }
func_right name e (returns.Vector t) h =
    record { forms = func_front ++ OneOf (codes "s" ∷ codes "v" ∷ []) ∷ a_type ∷ []; known = refl; right = (name_right name h, (export_right e, ((refl, refl), (type_right t, tt)))); whole = refl }

kind_right : (k : ParamKind) → Right (OneOf (codes "s" ∷ codes "v" ∷ codes "a" ∷ [])) (kind_word k)
kind_right kind.Scalar = (refl, refl)
kind_right kind.Vector = (refl, refl)
kind_right kind.Array = (refl, refl)

sharing_right : (s : Sharing) → Right (OneOf (codes "u" ∷ codes "p" ∷ [])) (sharing_word s)
sharing_right Shared = (refl, refl)
sharing_right PerInstance = (refl, refl)

size_lt : (l : Local) → local_fits l ≡ true → l.size < 2 ^ 64
size_lt l h = let k = leb-true l.size 65536 (and_parts (nat_le 1 l.size) (nat_le l.size 65536) h).1 in omega (arith, k)

never_none : (n : ℕ) → nat_eq (suc n) 0 ≡ false
never_none n = grind (arith, nat_tests)

scalars_right : (t : Elem) (ts : List Elem) → Operands head.Scalars (map type_word (t ∷ ts))
scalars_right t ts =
    record { forms = replicate (length (map type_word (t ∷ ts))) a_type; known = rw (never_none (length (map type_word ts))) refl; right = types_right (t ∷ ts); whole = refl }

vectors_right : (t : Elem) (ts : List Elem) → Operands head.Vectors (map type_word (t ∷ ts))
vectors_right t ts =
    record { forms = replicate (length (map type_word (t ∷ ts))) a_type; known = rw (never_none (length (map type_word ts))) refl; right = types_right (t ∷ ts); whole = refl }

-- instructions
rows_right : (rs : List Register) → list_all register_fits rs ≡ true → AllRight (map one_register rs) (map register_word rs)
rows_right [] h = tt
rows_right (r ∷ rs) h = let q = and_parts (register_fits r) (list_all register_fits rs) h in (register_right r q.0, rows_right rs q.1)

tail_right : (t : Tail) → tail_fits t ≡ true → AllRight (ending_forms (ending_of t)) (tail_words t)
tail_right tail.Nothing h = tt
tail_right (tail.Place p) h = (lettered_right (codes "p") 112 p refl refl h, tt)
tail_right (tail.Label n) h = (label_right n h, tt)
tail_right (tail.Text t) h = (lettered_right (codes "t") 116 t refl refl h, tt)
tail_right (tail.Number z) h = (constant_right z h, tt)
tail_right (tail.Back x) h = (back_right x h, tt)

four_more : (n : ℕ) → nat_lt (suc (suc (suc (suc n)))) 4 ≡ false
four_more n = grind (arith, nat_tests)

four_less : (n : ℕ) → suc (suc (suc (suc n))) - 4 ≡ n
four_less n = omega arith

call_right : (c : Call) → call_fits c ≡ true → Operands head.Call (row_operands (call c))
call_right c h =
    let p = and_parts (number_fits c.function && result_fits c.result && register_fits c.mask && number_fits c.place) (list_all register_fits c.arguments) h in
    let q = and_parts (number_fits c.function && result_fits c.result && register_fits c.mask) (number_fits c.place) p.0 in
    let r = and_parts (number_fits c.function && result_fits c.result) (register_fits c.mask) q.0 in
    let s = and_parts (number_fits c.function) (result_fits c.result) r.0 in
    record {
      forms = Lettered (codes "f") ∷ Back ∷ register ∷ place ∷ replicate (length (map register_word c.arguments)) register;
      known = rw (four_more (length (map register_word c.arguments)), four_less (length (map register_word c.arguments))) refl;
      right = (lettered_right (codes "f") 102 c.function refl refl s.0, (back_right c.result s.1, (register_right c.mask r.1, (lettered_right (codes "p") 112 c.place refl refl q.1, registers_right c.arguments p.1))));
      whole = refl;
    }

row_right : (r : Row) → row_fits r ≡ true → HasForms r → Spelled (row_head r) (row_words r)
row_right (line o rs t) h k =
    let q = and_parts (list_all register_fits rs) (tail_fits t) h in
    record {
      operands = map register_word rs ++ tail_words t;
      is = refl;
      fine = record {
        forms = map one_register rs ++ ending_forms (ending_of t);
        known = k;
        right = right-append (map one_register rs)
            (ending_forms (ending_of t)) (map register_word rs) (tail_words t) (rows_right rs q.0) (tail_right t q.1);
        whole = refl;
      };
    }
row_right (call c) h k = record { operands = row_operands (call c); is = refl; fine = call_right c h }

pub line_right : (l : Line) → line_fits l ≡ true → Spelled (line_head l) (line_words l)
line_right (says.Isp g) h = record { operands = decimal (version_of g) ∷ codes "gang" ∷ decimal (gang_width g) ∷ []; is = refl; fine = header_right g }
line_right (says.Place s) h = record { operands = decimal s.start ∷ decimal s.end ∷ []; is = refl; fine = place_right s h }
line_right (says.Text bytes) h =
    record { operands = hex_word bytes ∷ []; is = refl; fine = record { forms = Hex ∷ []; known = refl; right = (hex_right bytes h, tt); whole = refl } }
line_right (says.Func name exported r) h = record { operands = name ∷ export_word exported ∷ returns_words r; is = refl; fine = func_right name exported r h }
line_right (says.Par p) h =
    record {
      operands = kind_word p.kind ∷ type_word p.elem ∷ p.name ∷ [];
      is = refl;
      fine = record { forms = OneOf (codes "s" ∷ codes "v" ∷ codes "a" ∷ []) ∷ a_type ∷ Name ∷ []; known = refl; right = (kind_right p.kind, (type_right p.elem, (name_right p.name h, tt))); whole = refl };
    }
line_right (says.Loc l) h =
    record {
      operands = sharing_word l.sharing ∷ type_word l.elem ∷ decimal l.size ∷ [];
      is = refl;
      fine = record { forms = OneOf (codes "u" ∷ codes "p" ∷ []) ∷ a_type ∷ NumberIn is_size ∷ []; known = refl; right = (sharing_right l.sharing, (type_right l.elem, (number_right is_size l.size (size_lt l h) h, tt))); whole = refl };
    }
line_right (says.Scalars []) h = absurd cc
line_right (says.Scalars (t ∷ ts)) h = record { operands = map type_word (t ∷ ts); is = refl; fine = scalars_right t ts }
line_right (says.Vectors []) h = absurd cc
line_right (says.Vectors (t ∷ ts)) h = record { operands = map type_word (t ∷ ts); is = refl; fine = vectors_right t ts }
line_right (says.Masks n) h =
    record { operands = decimal n ∷ []; is = refl; fine = record { forms = NumberIn number_fits ∷ []; known = refl; right = (number_right number_fits n (number_lt n h) h, tt); whole = refl } }
line_right (says.Do i) h = row_right (row i) (row_fit i h) (row_forms i)
line_right says.End h = record { operands = []; is = refl; fine = record { forms = []; known = refl; right = tt; whole = refl } }

-- so a line has no fault where it may stand, and its words are plain
pub spelled_plain : (h : Head) (ws : List (List ℕ)) → Spelled h ws → are_words ws ≡ true
spelled_plain h ws s = rw s.is (rw (head_plain h) (all_plain s.fine.forms s.operands s.fine.right))

pub spelled_after : (t : Seen) (h : Head) (ws : List (List ℕ)) → Spelled h ws → after_words t ws ≡ after_kind t (kind_of h)
spelled_after t h ws s = rw (s.is, head_found h) refl

pub spelled_fine : (t : Seen) (h : Head) (ws : List (List ℕ)) → Spelled h ws → may_follow t.last (kind_of h) ≡ true → has_room t (kind_of h) ≡ true → words_line_fault t ws ≡ None
spelled_fine t h ws s f r =
    rw (s.is, head_plain h, all_plain s.fine.forms s.operands s.fine.right, head_found h, f, r, s.fine.known, no_words_fault s.fine.forms s.operands s.fine.right, s.fine.whole) refl
