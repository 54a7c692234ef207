-- Lists of statements, one more at a time.
use Rattle.std.proofs.Common.{◌≡◌, ℕ, ◌+◌, ◌<◌, List, [], ◌∷◌, ◌++◌, length, sym, ap, subst, ◌∙◌, false, Bool, not, Option, take, get_or, add-one}
use Rattle.std.proofs.Math.Seq.{take-suc}
use Rattle.std.proofs.lemmas.List.{map-append}
use Rattle.isp_base.specs.declared.types.Span.{Span}
use Rattle.isp_base.specs.declared.types.Ty.{Ty}
use Rattle.isp_lower_code.specs.Layout.{Layout}
use Rattle.isp_lower.specs.declared.types.Body.{Body}
use Rattle.isp_typed.specs.Typed.{t_stmts}
use Rattle.isp_typed.specs.Views.{stmt_of, stmts_of}
use Rattle.isp_typed.specs.declared.stmt.TypedStmt.{TypedStmt}
use Rattle.isp_masks.specs.Awaited.{Awaits, Code, jump_where}
use Rattle.isp_masks_code.specs.Exits.{all_go_on}
use Rattle.isp_masks_code.specs.Spots.{Spot}
use Rattle.isp_masks_code.specs.Statements.{stmt_code, stmt_places, stmt_texts, stmts_places, stmts_texts}
use Rattle.isp_masks.specs.Written.{Writes}
use Rattle.isp_masks.proofs.Awaiting.{awaits_so, awaits_then}
use Rattle.isp_masks.proofs.Lists.{behind_all, flat, flat_last, left_after, left_last, places_last, texts_last}

-- one more of a list
pub taken : (items : List TypedStmt) (i : ℕ) (x : TypedStmt) → i < length items → x ≡ get_or items i x → stmts_of (take (i + 1) items) ≡ stmts_of (take i items) ++ stmt_of x ∷ []
taken items i x low is =
    ap (λ m. stmts_of (take m items)) (add-one i)
    ∙ ap stmts_of (take-suc items i x low ∙ ap (λ z. take i items ++ z ∷ []) (sym is))
    ∙ map-append stmt_of (take i items) (x ∷ [])

pub list_step : (answer : Option Ty) (spot : Spot) (l : Layout) (o a r b : Body) (js hs : List ℕ) (f g : Bool) (items : List TypedStmt) (i : ℕ) (x : TypedStmt)
    → i < length items → x ≡ get_or items i x
    → Awaits o a js spot.on (λ t pc z. flat answer spot t l false (stmts_of (take i items)) pc z) (stmts_places l (t_stmts (stmts_of (take i items)))) (stmts_texts (t_stmts (stmts_of (take i items))))
    → f ≡ left_after false (stmts_of (take i items))
    → ((o : Body) (c : Code) (s : List Span) (u : List (List ℕ)) → Awaits o a js spot.on c s u → Awaits o r hs spot.on (λ t pc z. c t pc z ++ jump_where f spot.on t) s u)
    → Writes r b (record { code = λ pc z. stmt_code l answer (stmt_of x) pc z spot; places = stmt_places l (stmt_of x); texts = stmt_texts (stmt_of x) })
    → g ≡ not (all_go_on (stmt_of x))
    → Awaits o b hs spot.on (λ t pc z. flat answer spot t l false (stmts_of (take (i + 1) items)) pc z) (stmts_places l (t_stmts (stmts_of (take (i + 1) items)))) (stmts_texts (t_stmts (stmts_of (take (i + 1) items))))
    × (g ≡ left_after false (stmts_of (take (i + 1) items)))
list_step answer spot l o a r b js hs f g items i x low is y left room w gone =
    let ys = stmts_of (take i items) in
    let one = stmt_of x in
    let k = spot.on in
    let spans = stmts_places l (t_stmts ys) in
    let texts = stmts_texts (t_stmts ys) in
    let code : Code = λ t pc z. flat answer spot t l false ys pc z ++ jump_where f k t in
    let more = awaits_then o r b hs k code spans texts (record { code = λ pc z. stmt_code l answer one pc z spot; places = stmt_places l one; texts = stmt_texts one }) (room o (λ t pc z. flat answer spot t l false ys pc z) spans texts y) w in
    subst (λ zs. Awaits o b hs k (λ t pc z. flat answer spot t l false zs pc z) (stmts_places l (t_stmts zs)) (stmts_texts (t_stmts zs)) × (g ≡ left_after false zs)) (sym (taken items i x low is)) (
      awaits_so o b hs k _ (λ t pc z. flat answer spot t l false (ys ++ one ∷ []) pc z) (spans ++ stmt_places l one) (stmts_places l (t_stmts (ys ++ one ∷ []))) (texts ++ stmt_texts one) (stmts_texts (t_stmts (ys ++ one ∷ []))) more
          (λ t pc z.
          ap (λ h. (flat answer spot t l false ys pc z ++ jump_where h k t) ++ stmt_code l answer one (pc + length (flat answer spot t l false ys pc z ++ jump_where h k t)) (behind_all l ys z) spot) left
          ∙ sym (flat_last answer spot t l false ys one pc z))
          (sym (places_last l ys one)) (sym (texts_last ys one)),
      gone ∙ sym (left_last false ys one),
    )
