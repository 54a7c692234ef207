-- What a line spells, read back: so no two lines are spelled alike.
use Rattle.std.specs.Prelude.{◌≡◌, ℕ, ◌≤◌, ◌^◌, zero, suc, Bool, true, false, ◌&&◌, List, [], ◌∷◌, ◌++◌, map, Option, Some, None, nat_le}
use Rattle.std.specs.Fmt.{decimal, digits}
use Rattle.std.specs.List.{list_all}
use Rattle.std.specs.Str.Parse.{digits_value}
use Rattle.std.proofs.Common.{refl, sym, ap, ◌∙◌, arith}
use Rattle.std.proofs.lemmas.Bool.{and_parts, leb-true}
use Rattle.std.proofs.lemmas.Fmt.{digits_value-decimal}
use Rattle.std.proofs.lemmas.List.{append-nil}
use Rattle.isp_base.specs.Types.{gang_width}
use Rattle.isp_base.specs.declared.types.Elem.{Elem}
use Rattle.isp_base.specs.declared.types.Gang.{Gang}
use Rattle.isp_base.specs.declared.types.Gang.TheVariants.{W4, W8, W16, W32}
use Rattle.isp_base.specs.declared.types.Span.{Span}
use Rattle.isp_code.specs.Writable.{number_fits, register_fits, result_fits, call_fits, place_fits, source_limit, text_fits, local_fits}
use Rattle.isp_code.specs.declared.function.Local.{Local}
use Rattle.isp_code.specs.declared.function.ParamKind.{ParamKind}
use Rattle.isp_code.specs.declared.function.ParamKind.TheVariants as kind
use Rattle.isp_code.specs.declared.function.Returns.{Returns}
use Rattle.isp_code.specs.declared.function.Returns.TheVariants as returns
use Rattle.isp_code.specs.declared.function.Sharing.{Sharing}
use Rattle.isp_code.specs.declared.function.Sharing.TheVariants.{Shared, PerInstance}
use Rattle.isp_code.specs.declared.instr.Call.{Call}
use Rattle.isp_code.specs.declared.instr.Instr.{Instr}
use Rattle.isp_code.specs.declared.instr.Instr.TheVariants as instr
use Rattle.isp_code.specs.declared.register.Register.{Register}
use Rattle.isp_asm.specs.declared.head.Head.{Head}
use Rattle.isp_asm.specs.declared.head.Head.TheVariants as head
use Rattle.isp_asm.specs.declared.head.Op.{Op}
use Rattle.isp_asm.specs.declared.row.Tail.{Tail}
use Rattle.isp_asm.specs.declared.row.Tail.TheVariants as tail
use Rattle.isp_asm.specs.declared.shape.Ending.{Ending}
use Rattle.isp_asm.specs.declared.shape.Ending.TheVariants as ending
use Rattle.isp_asm.specs.Heads.{head_of}
use Rattle.isp_asm.specs.Rows.{Row, line, call, row, row_words, tail_words}
use Rattle.isp_asm.specs.Shapes.{shape_of}
use Rattle.isp_asm.specs.Spelling as says
use Rattle.isp_asm.specs.Spelling.{Line, line_words, export_word, kind_word, sharing_word}
use Rattle.isp_asm.specs.Words.{register_word, type_word, hex_word}
use Rattle.isp_asm.specs.reader.Making.{made}
use Rattle.isp_asm.specs.reader.Reading.{ending_of, line_fits, tail_fits}
use Rattle.isp_asm.proofs.HeadLaws.{op_found}
use Rattle.isp_asm.proofs.Numerals.{own}
use Rattle.isp_asm.proofs.RowLaws.{EndsRight, remade, row_ends, row_fit, row_fits, row_kept}
use Rattle.isp_asm.proofs.WordReadings.{first_of, type_back, type_kept, number_kept, lettered_back, register_back, register_kept, back_back, back_kept, constant_back, constant_kept, hex_back, hex_kept}

-- the words of a list but the last, and the last
abbrev pub front_of : List (List ℕ) → List (List ℕ)
front_of [] = []
front_of (w ∷ []) = []
front_of (w ∷ v ∷ vs) = w ∷ front_of (v ∷ vs)

abbrev last_of : List (List ℕ) → List ℕ
last_of [] = []
last_of (w ∷ []) = w
last_of (w ∷ v ∷ vs) = last_of (v ∷ vs)

pub front_push : (ws : List (List ℕ)) (w : List ℕ) → front_of (ws ++ w ∷ []) ≡ ws
front_push [] w = refl
front_push (v ∷ []) w = refl
front_push (v ∷ u ∷ us) w = ap (λ vs. v ∷ vs) (front_push (u ∷ us) w)

last_push : (ws : List (List ℕ)) (w : List ℕ) → last_of (ws ++ w ∷ []) ≡ w
last_push [] w = refl
last_push (v ∷ []) w = refl
last_push (v ∷ u ∷ us) w = last_push (u ∷ us) w

-- the registers and the ending of an instruction
registers_kept : (rs : List Register) → list_all register_fits rs ≡ true → map register_back (map register_word rs) ≡ rs
registers_kept [] h = refl
registers_kept (r ∷ rs) h =
    let q = and_parts (register_fits r) (list_all register_fits rs) h in
    rw (register_kept r q.0, registers_kept rs q.1) refl

abbrev tail_back : Ending → List ℕ → Tail
tail_back ending.Nothing w = tail.Nothing
tail_back ending.Place w = tail.Place (lettered_back w)
tail_back ending.Label w = tail.Label (lettered_back w)
tail_back ending.Text w = tail.Text (lettered_back w)
tail_back ending.Number w = tail.Number (constant_back w)
tail_back ending.Back w = tail.Back (back_back w)

abbrev ended : Op → Ending → List (List ℕ) → Instr
ended o ending.Nothing ws = made o (map register_back ws) tail.Nothing
ended o e ws = made o (map register_back (front_of ws)) (tail_back e (last_of ws))

with_tail : (o : Op) (rs : List Register) (w : List ℕ) (e : Ending) (t : Tail) → list_all register_fits rs ≡ true → tail_back e w ≡ t
    → made o (map register_back (front_of (map register_word rs ++ w ∷ []))) (tail_back e (last_of (map register_word rs ++ w ∷ []))) ≡ made o rs t
with_tail o rs w e t h k = rw (front_push (map register_word rs) w, last_push (map register_word rs) w, registers_kept rs h, k) refl

ended_kept : (o : Op) (rs : List Register) (t : Tail) → list_all register_fits rs ≡ true → tail_fits t ≡ true → ended o (ending_of t) (map register_word rs ++ tail_words t) ≡ made o rs t
ended_kept o rs tail.Nothing h k = rw (append-nil (map register_word rs), registers_kept rs h) refl
ended_kept o rs (tail.Place p) h k = with_tail o rs _ ending.Place (tail.Place p) h (ap (λ n. tail.Place n) (number_kept p k))
ended_kept o rs (tail.Label n) h k = with_tail o rs _ ending.Label (tail.Label n) h (ap (λ m. tail.Label m) (number_kept n k))
ended_kept o rs (tail.Text t) h k = with_tail o rs _ ending.Text (tail.Text t) h (ap (λ n. tail.Text n) (number_kept t k))
ended_kept o rs (tail.Number z) h k = with_tail o rs _ ending.Number (tail.Number z) h (ap (λ y. tail.Number y) (constant_kept z k))
ended_kept o rs (tail.Back x) h k = with_tail o rs _ ending.Back (tail.Back x) h (ap (λ y. tail.Back y) (back_kept x k))

-- a word by its number
abbrev nth : ℕ → List (List ℕ) → List ℕ
nth n [] = []
nth zero (w ∷ ws) = w
nth (suc n) (w ∷ ws) = nth n ws

abbrev behind : ℕ → List (List ℕ) → List (List ℕ)
behind zero ws = ws
behind (suc n) [] = []
behind (suc n) (w ∷ ws) = behind n ws

abbrev value : List ℕ → ℕ
value w = digits_value 10 w

abbrev gang_word : Gang → List ℕ
gang_word g = decimal (gang_width g)

abbrev gang_back : List ℕ → Gang
gang_back w = first_of gang_word W4 (W4 ∷ W8 ∷ W16 ∷ W32 ∷ []) w

abbrev export_back : List ℕ → Bool
export_back w = first_of export_word true (true ∷ false ∷ []) w

abbrev kind_back : List ℕ → ParamKind
kind_back w = first_of kind_word kind.Scalar (kind.Scalar ∷ kind.Vector ∷ kind.Array ∷ []) w

abbrev sharing_back : List ℕ → Sharing
sharing_back w = first_of sharing_word Shared (Shared ∷ PerInstance ∷ []) w

abbrev result_back : ParamKind → Elem → Returns
result_back kind.Scalar t = returns.Scalar t
result_back k t = returns.Vector t

abbrev returns_back : List (List ℕ) → Returns
returns_back [] = returns.Nothing
returns_back (w ∷ []) = returns.Nothing
returns_back (w ∷ t ∷ ws) = result_back (kind_back w) (type_back t)

abbrev read_operands : Head → List (List ℕ) → Line
read_operands head.Isp ws = says.Isp (gang_back (nth 2 ws))
read_operands head.Place ws = says.Place (record { start = value (nth 0 ws); end = value (nth 1 ws) })
read_operands head.Text ws = says.Text (hex_back (nth 0 ws))
read_operands head.Func ws = says.Func (nth 0 ws) (export_back (nth 1 ws)) (returns_back (behind 2 ws))
read_operands head.Par ws = says.Par (record { name = nth 2 ws; kind = kind_back (nth 0 ws); elem = type_back (nth 1 ws) })
read_operands head.Loc ws = says.Loc (record { sharing = sharing_back (nth 0 ws); elem = type_back (nth 1 ws); size = value (nth 2 ws) })
read_operands head.Scalars ws = says.Scalars (map type_back ws)
read_operands head.Vectors ws = says.Vectors (map type_back ws)
read_operands head.Masks ws = says.Masks (value (nth 0 ws))
read_operands head.End ws = says.End
read_operands head.Call ws = says.Do (instr.Call (record { function = lettered_back (nth 0 ws); result = back_back (nth 1 ws); mask = register_back (nth 2 ws); place = lettered_back (nth 3 ws); arguments = map register_back (behind 4 ws) }))
read_operands (head.Op o) ws = says.Do (ended o (shape_of o).ending ws)

abbrev read_head : Option Head → List (List ℕ) → Line
read_head None ws = says.End
read_head (Some h) ws = read_operands h ws

abbrev pub read_line : List (List ℕ) → Line
read_line [] = says.End
read_line (w ∷ ws) = read_head (head_of w) ws

gang_kept : (g : Gang) → gang_back (gang_word g) ≡ g
unfolding digits
gang_kept W4 = refl
gang_kept W8 = refl
gang_kept W16 = refl
gang_kept W32 = refl

small : (n m : ℕ) → n ≤ m → m ≤ 2 ^ 32 → value (decimal n) ≡ n
small n m h k = digits_value-decimal own n (omega (arith, h, k))

place_kept : (s : Span) → place_fits s ≡ true → read_line (line_words (says.Place s)) ≡ says.Place s
place_kept s h =
    let q = and_parts (nat_le s.start s.end) (nat_le s.end source_limit) h in
    let l = leb-true s.start s.end q.0 in
    let k = leb-true s.end source_limit q.1 in
    rw (small s.start source_limit (omega (arith, l, k)) (omega arith), small s.end source_limit k (omega arith)) refl

export_kept : (e : Bool) → export_back (export_word e) ≡ e
export_kept true = refl
export_kept false = refl

kind_kept : (k : ParamKind) → kind_back (kind_word k) ≡ k
kind_kept kind.Scalar = refl
kind_kept kind.Vector = refl
kind_kept kind.Array = refl

sharing_kept : (s : Sharing) → sharing_back (sharing_word s) ≡ s
sharing_kept Shared = refl
sharing_kept PerInstance = refl

returns_kept : (r : Returns) → returns_back (says.returns_words r) ≡ r
returns_kept returns.Nothing = refl
returns_kept (returns.Scalar t) = rw (type_kept t) refl
returns_kept (returns.Vector t) = rw (type_kept t) refl

types_kept : (ts : List Elem) → map type_back (map type_word ts) ≡ ts
types_kept [] = refl
types_kept (t ∷ ts) = rw (type_kept t, types_kept ts) refl

local_kept : (l : Local) → local_fits l ≡ true → read_line (line_words (says.Loc l)) ≡ says.Loc l
local_kept l h =
    let k = leb-true l.size 65536 (and_parts (nat_le 1 l.size) (nat_le l.size 65536) h).1 in
    rw (sharing_kept l.sharing, type_kept l.elem, small l.size 65536 k (omega arith)) refl

call_kept : (c : Call) → call_fits c ≡ true → read_line (row_words (call c)) ≡ says.Do (instr.Call c)
call_kept c h =
    let p = and_parts (number_fits c.function && result_fits c.result && register_fits c.mask && number_fits c.place) (list_all register_fits c.arguments) h in
    let q = and_parts (number_fits c.function && result_fits c.result && register_fits c.mask) (number_fits c.place) p.0 in
    let r = and_parts (number_fits c.function && result_fits c.result) (register_fits c.mask) q.0 in
    let s = and_parts (number_fits c.function) (result_fits c.result) r.0 in
    rw (number_kept c.function s.0, back_kept c.result s.1, register_kept c.mask r.1, number_kept c.place q.1, registers_kept c.arguments p.1) refl

row_read : (r : Row) → row_fits r ≡ true → EndsRight r → read_line (row_words r) ≡ says.Do (remade r)
row_read (line o rs t) h e =
    let q = and_parts (list_all register_fits rs) (tail_fits t) h in
    ap (λ f. read_head f (map register_word rs ++ tail_words t)) (op_found o)
    ∙ ap (λ e. says.Do (ended o e (map register_word rs ++ tail_words t))) (sym e)
    ∙ ap (λ i. says.Do i) (ended_kept o rs t q.0 q.1)
row_read (call c) h e = call_kept c h

text_kept : (bs : List ℕ) → text_fits bs ≡ true → hex_back (hex_word bs) ≡ bs
text_kept [] h = refl
text_kept (b ∷ bs) h = hex_kept (b ∷ bs) h

pub line_kept : (l : Line) → line_fits l ≡ true → read_line (line_words l) ≡ l
line_kept (says.Isp g) h = ap (λ g. says.Isp g) (gang_kept g)
line_kept (says.Place s) h = place_kept s h
line_kept (says.Text bytes) h = ap (λ bs. says.Text bs) (text_kept bytes h)
line_kept (says.Func name exported r) h = rw (export_kept exported, returns_kept r) refl
line_kept (says.Par p) h = rw (kind_kept p.kind, type_kept p.elem) refl
line_kept (says.Loc l) h = local_kept l h
line_kept (says.Scalars ts) h = ap (λ ts. says.Scalars ts) (types_kept ts)
line_kept (says.Vectors ts) h = ap (λ ts. says.Vectors ts) (types_kept ts)
line_kept (says.Masks n) h = ap (λ n. says.Masks n) (number_kept n h)
line_kept (says.Do i) h = row_read (row i) (row_fit i h) (row_ends i) ∙ ap (λ i. says.Do i) (row_kept i)
line_kept says.End h = refl
