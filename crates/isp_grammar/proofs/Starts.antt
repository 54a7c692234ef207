-- What the first token decides.
use Rattle.std.proofs.Common.{◌≡◌, Bool, true, false, List, [], ◌∷◌, Some, refl, sym, ap, ◌∙◌, inl, inr, ◌⊎◌}
use Rattle.std.proofs.lemmas.Bool.{false≢true}
use Rattle.isp_base.specs.declared.types.Span.{Span}
use Rattle.isp_lex.specs.Tokens.{at, is_mark, starts_with}
use Rattle.isp_lex.specs.declared.token.Mark.{Mark}
use Rattle.isp_lex.specs.declared.token.Mark.TheVariants as mark
use Rattle.isp_lex.specs.declared.token.TokenKind.{TokenKind}
use Rattle.isp_lex.specs.declared.token.TokenKind.TheVariants as kind
use Rattle.isp_lex.specs.declared.token.Token.{Token}
use Rattle.isp_grammar.proofs.Basics.{some_is, none_some, token, is_mark_is, starts_by_head}
use Rattle.isp_grammar.proofs.Choices.{nowhere}
use Rattle.isp_grammar.proofs.Forms.{Can}
use Rattle.isp_grammar.proofs.TypesRead.{Types}
use Rattle.isp_grammar.specs.Grammar.{is_based, is_qualifier}
use Rattle.isp_grammar.specs.reader.Choices.{begins_with}
use Rattle.isp_grammar.specs.reader.Exprs.{begins_expr}
use Rattle.isp_grammar.specs.reader.Starts.{start_of}
use Rattle.isp_grammar.specs.reader.Stmts.{assignment_of, change_of, is_change}
use Rattle.isp_grammar.specs.reader.Types.{begins_type}
use Rattle.isp_grammar.specs.Signs.{qualifier_mark, base_mark, if_mark, while_mark, do_mark, for_mark, foreach_mark, jump_mark, assignment_mark, change_mark}
use Rattle.isp_grammar.specs.declared.start.Start.{Start}
use Rattle.isp_grammar.specs.declared.start.Start.TheVariants as by
use Rattle.isp_tree.specs.declared.types.Qualifier.{Qualifier}
use Rattle.isp_tree.specs.declared.types.Qualifier.TheVariants as qualifier
use Rattle.isp_tree.specs.declared.types.Base.{Base}
use Rattle.isp_tree.specs.declared.types.Base.TheVariants as base
use Rattle.isp_tree.specs.declared.stmt.Assignment.{Assignment}
use Rattle.isp_tree.specs.declared.stmt.Assignment.TheVariants as assignment
use Rattle.isp_tree.specs.declared.stmt.Change.{Change}
use Rattle.isp_tree.specs.declared.stmt.Change.TheVariants.{Increment, Decrement}

-- ---- kinds of tokens

-- where tokens of one sort begin, those of another do not
pub begins_off : (b c : TokenKind → Bool) → ((k : TokenKind) → b k ≡ true → c k ≡ false) → (u : List Token) → begins_with b u ≡ true → begins_with c u ≡ false
begins_off b c f [] e = refl
begins_off b c f (t ∷ u) e = f t.kind e

pub begins_on : (b c : TokenKind → Bool) → ((k : TokenKind) → b k ≡ true → c k ≡ true) → (u : List Token) → begins_with b u ≡ true → begins_with c u ≡ true
begins_on b c f [] e = absurd cc
begins_on b c f (t ∷ u) e = f t.kind e

mark_off_by : (m : Mark) (f : TokenKind → Bool) (k : TokenKind) (b : Bool) → is_mark m k ≡ b → f (kind.Mark m) ≡ false → f k ≡ true → b ≡ false
mark_off_by m f k false e off on = refl
mark_off_by m f k true e off on = absurd (false≢true (sym off ∙ ap f (sym (is_mark_is m k e)) ∙ on))

-- a mark is none of these
pub off_mark : (m : Mark) (f : TokenKind → Bool) → f (kind.Mark m) ≡ false → (k : TokenKind) → f k ≡ true → is_mark m k ≡ false
off_mark m f off k on = mark_off_by m f k (is_mark m k) refl off on

pub starts_off : (m : Mark) (f : TokenKind → Bool) → f (kind.Mark m) ≡ false → (u : List Token) → begins_with f u ≡ true → starts_with m u ≡ false
starts_off m f off u e = starts_by_head m u ∙ begins_off f (is_mark m) (λ k on. off_mark m f off k on) u e

-- ---- how statements begin

abbrev pub Fits : Start → TokenKind → Type 0
Fits by.Block k = k ≡ kind.Mark mark.BraceOpen
Fits by.Empty k = k ≡ kind.Mark mark.Semicolon
Fits by.Declare k = begins_type k ≡ true
Fits by.Simple k = (begins_expr k ≡ true) ⊎ (is_change k ≡ true)
Fits (by.If f) k = k ≡ kind.Mark (if_mark f)
Fits (by.While f) k = k ≡ kind.Mark (while_mark f)
Fits (by.Do f) k = k ≡ kind.Mark (do_mark f)
Fits (by.For f) k = k ≡ kind.Mark (for_mark f)
Fits (by.Foreach t) k = k ≡ kind.Mark (foreach_mark t)
Fits by.ForeachActive k = k ≡ kind.Mark mark.ForeachActive
Fits by.ForeachUnique k = k ≡ kind.Mark mark.ForeachUnique
Fits by.Unmasked k = k ≡ kind.Mark mark.Unmasked
Fits (by.Jump j) k = k ≡ kind.Mark (jump_mark j)
Fits by.Return k = k ≡ kind.Mark mark.Return
Fits by.Print k = k ≡ kind.Mark mark.Print
Fits by.Assert k = k ≡ kind.Mark mark.Assert
Fits by.Nothing k = Unit {0}

pub start_fits : (k : TokenKind) → Fits (start_of k) k
start_fits (kind.Word n) = inl refl
start_fits (kind.Number v) = inl refl
start_fits (kind.Text t) = tt
start_fits (kind.Mark mark.BraceOpen) = refl
start_fits (kind.Mark mark.Semicolon) = refl
start_fits (kind.Mark mark.If) = refl
start_fits (kind.Mark mark.Cif) = refl
start_fits (kind.Mark mark.While) = refl
start_fits (kind.Mark mark.Cwhile) = refl
start_fits (kind.Mark mark.Do) = refl
start_fits (kind.Mark mark.Cdo) = refl
start_fits (kind.Mark mark.For) = refl
start_fits (kind.Mark mark.Cfor) = refl
start_fits (kind.Mark mark.Foreach) = refl
start_fits (kind.Mark mark.ForeachTiled) = refl
start_fits (kind.Mark mark.ForeachActive) = refl
start_fits (kind.Mark mark.ForeachUnique) = refl
start_fits (kind.Mark mark.Unmasked) = refl
start_fits (kind.Mark mark.Break) = refl
start_fits (kind.Mark mark.Continue) = refl
start_fits (kind.Mark mark.Return) = refl
start_fits (kind.Mark mark.Print) = refl
start_fits (kind.Mark mark.Assert) = refl
start_fits (kind.Mark mark.Void) = refl
start_fits (kind.Mark mark.Bool) = refl
start_fits (kind.Mark mark.Int) = refl
start_fits (kind.Mark mark.Int8) = refl
start_fits (kind.Mark mark.Int16) = refl
start_fits (kind.Mark mark.Int32) = refl
start_fits (kind.Mark mark.Int64) = refl
start_fits (kind.Mark mark.Uint) = refl
start_fits (kind.Mark mark.Uint8) = refl
start_fits (kind.Mark mark.Uint16) = refl
start_fits (kind.Mark mark.Uint32) = refl
start_fits (kind.Mark mark.Uint64) = refl
start_fits (kind.Mark mark.Signed) = refl
start_fits (kind.Mark mark.Unsigned) = refl
start_fits (kind.Mark mark.Const) = refl
start_fits (kind.Mark mark.Uniform) = refl
start_fits (kind.Mark mark.Varying) = refl
start_fits (kind.Mark mark.ParenOpen) = inl refl
start_fits (kind.Mark mark.Minus) = inl refl
start_fits (kind.Mark mark.Inverse) = inl refl
start_fits (kind.Mark mark.Not) = inl refl
start_fits (kind.Mark mark.True) = inl refl
start_fits (kind.Mark mark.False) = inl refl
start_fits (kind.Mark mark.ProgramIndex) = inl refl
start_fits (kind.Mark mark.ProgramCount) = inl refl
start_fits (kind.Mark mark.Increment) = inr refl
start_fits (kind.Mark mark.Decrement) = inr refl
start_fits (kind.Mark _) = tt
start_fits kind.LeftOut = tt

pub expr_start : (k : TokenKind) → begins_expr k ≡ true → start_of k ≡ by.Simple
expr_start (kind.Word n) e = refl
expr_start (kind.Number v) e = refl
expr_start (kind.Text t) e = absurd (false≢true e)
expr_start (kind.Mark mark.ParenOpen) e = refl
expr_start (kind.Mark mark.Minus) e = refl
expr_start (kind.Mark mark.Inverse) e = refl
expr_start (kind.Mark mark.Not) e = refl
expr_start (kind.Mark mark.True) e = refl
expr_start (kind.Mark mark.False) e = refl
expr_start (kind.Mark mark.ProgramIndex) e = refl
expr_start (kind.Mark mark.ProgramCount) e = refl
expr_start (kind.Mark _) e = absurd (false≢true e)
expr_start kind.LeftOut e = absurd (false≢true e)

pub type_start : (k : TokenKind) → begins_type k ≡ true → start_of k ≡ by.Declare
type_start (kind.Word n) e = absurd (false≢true e)
type_start (kind.Number v) e = absurd (false≢true e)
type_start (kind.Text t) e = absurd (false≢true e)
type_start (kind.Mark mark.Void) e = refl
type_start (kind.Mark mark.Bool) e = refl
type_start (kind.Mark mark.Int) e = refl
type_start (kind.Mark mark.Int8) e = refl
type_start (kind.Mark mark.Int16) e = refl
type_start (kind.Mark mark.Int32) e = refl
type_start (kind.Mark mark.Int64) e = refl
type_start (kind.Mark mark.Uint) e = refl
type_start (kind.Mark mark.Uint8) e = refl
type_start (kind.Mark mark.Uint16) e = refl
type_start (kind.Mark mark.Uint32) e = refl
type_start (kind.Mark mark.Uint64) e = refl
type_start (kind.Mark mark.Signed) e = refl
type_start (kind.Mark mark.Unsigned) e = refl
type_start (kind.Mark mark.Const) e = refl
type_start (kind.Mark mark.Uniform) e = refl
type_start (kind.Mark mark.Varying) e = refl
type_start (kind.Mark _) e = absurd (false≢true e)
type_start kind.LeftOut e = absurd (false≢true e)

-- ---- signs

pub change_found : (k : TokenKind) (c : Change) → change_of k ≡ Some c → k ≡ kind.Mark (change_mark c)
change_found (kind.Word n) c e = absurd (none_some e)
change_found (kind.Number v) c e = absurd (none_some e)
change_found (kind.Text t) c e = absurd (none_some e)
change_found (kind.Mark mark.Increment) Increment e = refl
change_found (kind.Mark mark.Increment) Decrement e = absurd cc
change_found (kind.Mark mark.Decrement) Increment e = absurd cc
change_found (kind.Mark mark.Decrement) Decrement e = refl
change_found (kind.Mark _) c e = absurd (none_some e)
change_found kind.LeftOut c e = absurd (none_some e)

pub change_again : (c : Change) → change_of (kind.Mark (change_mark c)) ≡ Some c
change_again Increment = refl
change_again Decrement = refl

pub assignment_found : (k : TokenKind) (c : Assignment) → assignment_of k ≡ Some c → k ≡ kind.Mark (assignment_mark c)
assignment_found (kind.Word n) c e = absurd (none_some e)
assignment_found (kind.Number v) c e = absurd (none_some e)
assignment_found (kind.Text t) c e = absurd (none_some e)
assignment_found (kind.Mark mark.Assign) c e = ap (λ (a : Assignment). kind.Mark (assignment_mark a)) (some_is e)
assignment_found (kind.Mark mark.PlusAssign) c e = ap (λ (a : Assignment). kind.Mark (assignment_mark a)) (some_is e)
assignment_found (kind.Mark mark.MinusAssign) c e = ap (λ (a : Assignment). kind.Mark (assignment_mark a)) (some_is e)
assignment_found (kind.Mark mark.StarAssign) c e = ap (λ (a : Assignment). kind.Mark (assignment_mark a)) (some_is e)
assignment_found (kind.Mark mark.SlashAssign) c e = ap (λ (a : Assignment). kind.Mark (assignment_mark a)) (some_is e)
assignment_found (kind.Mark mark.PercentAssign) c e = ap (λ (a : Assignment). kind.Mark (assignment_mark a)) (some_is e)
assignment_found (kind.Mark mark.AndAssign) c e = ap (λ (a : Assignment). kind.Mark (assignment_mark a)) (some_is e)
assignment_found (kind.Mark mark.OrAssign) c e = ap (λ (a : Assignment). kind.Mark (assignment_mark a)) (some_is e)
assignment_found (kind.Mark mark.XorAssign) c e = ap (λ (a : Assignment). kind.Mark (assignment_mark a)) (some_is e)
assignment_found (kind.Mark mark.ShiftLeftAssign) c e = ap (λ (a : Assignment). kind.Mark (assignment_mark a)) (some_is e)
assignment_found (kind.Mark mark.ShiftRightAssign) c e = ap (λ (a : Assignment). kind.Mark (assignment_mark a)) (some_is e)
assignment_found (kind.Mark _) c e = absurd (none_some e)
assignment_found kind.LeftOut c e = absurd (none_some e)

pub assignment_again : (c : Assignment) → assignment_of (kind.Mark (assignment_mark c)) ≡ Some c
assignment_again assignment.Replace = refl
assignment_again assignment.Add = refl
assignment_again assignment.Subtract = refl
assignment_again assignment.Multiply = refl
assignment_again assignment.Divide = refl
assignment_again assignment.Remainder = refl
assignment_again assignment.And = refl
assignment_again assignment.Or = refl
assignment_again assignment.Xor = refl
assignment_again assignment.ShiftLeft = refl
assignment_again assignment.ShiftRight = refl

-- ---- what begins a type can be completed to one

qualified : (q : Qualifier) (s : Span) → (closing : List Token) × Can Types (at (qualifier_mark q) s ∷ closing)
qualified q s = (at mark.Int nowhere ∷ [], (_, is_based base.Int nowhere (at (qualifier_mark q) s ∷ []) (q ∷ []) (at (qualifier_mark q) s ∷ [], [], refl, is_qualifier q s, refl)))

based : (b : Base) (s : Span) → (closing : List Token) × Can Types (at (base_mark b) s ∷ closing)
based b s = ([], (_, is_based b s [] [] refl))

pub type_completes : (k : TokenKind) (s : Span) → begins_type k ≡ true → (closing : List Token) × Can Types (token k s ∷ closing)
type_completes (kind.Word n) s e = absurd (false≢true e)
type_completes (kind.Number v) s e = absurd (false≢true e)
type_completes (kind.Text t) s e = absurd (false≢true e)
type_completes (kind.Mark mark.Void) s e = based base.Void s
type_completes (kind.Mark mark.Bool) s e = based base.Bool s
type_completes (kind.Mark mark.Int) s e = based base.Int s
type_completes (kind.Mark mark.Int8) s e = based base.Int8 s
type_completes (kind.Mark mark.Int16) s e = based base.Int16 s
type_completes (kind.Mark mark.Int32) s e = based base.Int32 s
type_completes (kind.Mark mark.Int64) s e = based base.Int64 s
type_completes (kind.Mark mark.Uint) s e = based base.Uint s
type_completes (kind.Mark mark.Uint8) s e = based base.Uint8 s
type_completes (kind.Mark mark.Uint16) s e = based base.Uint16 s
type_completes (kind.Mark mark.Uint32) s e = based base.Uint32 s
type_completes (kind.Mark mark.Uint64) s e = based base.Uint64 s
type_completes (kind.Mark mark.Signed) s e = qualified qualifier.Signed s
type_completes (kind.Mark mark.Unsigned) s e = qualified qualifier.Unsigned s
type_completes (kind.Mark mark.Const) s e = qualified qualifier.Const s
type_completes (kind.Mark mark.Uniform) s e = qualified qualifier.Uniform s
type_completes (kind.Mark mark.Varying) s e = qualified qualifier.Varying s
type_completes (kind.Mark _) s e = absurd (false≢true e)
type_completes kind.LeftOut s e = absurd (false≢true e)
