-- The source of a program is not refused.
use Rattle.std.proofs.Common.{◌≡◌, ℕ, List, [], ◌∷◌, ◌++◌, sym, ap, append_assoc, ◌∙◌, subst, ⊎_elim, arith}
use Rattle.isp_lex.specs.Lexing.{IsRefused}
use Rattle.isp_lex.specs.Tokens.{TokenList}
use Rattle.isp_lex.specs.declared.fault.Fault.{Fault}
use Rattle.isp_lex.specs.declared.fault.SourceFault.TheVariants.{Refused}
use Rattle.isp_lex.proofs.Lexed.{one_list}
use Rattle.isp_lex.proofs.OneFault.{not_both}
use Rattle.isp_tree.specs.Tree.{Function as Read}
use Rattle.isp_grammar.specs.Grammar.{IsProgram as IsTree}
use Rattle.isp_syntax.specs.Promise.{Begins, IsTooDeep, Refuses, kinds}
use Rattle.isp_syntax.proofs.Promised.{kinds_append, one_tree}
use Rattle.isp_front.specs.Front.{HasTokens, HasTree, IsUnread, IsUnsound}
use Rattle.isp_front.proofs.Fronts.{no_program}
use Rattle.isp_headline.specs.OneProgram.{NoneRefused}

module _ (text : List ℕ) (tree : List Read) (has : HasTree text tree) where
  lexed : (f : Fault) → IsRefused (Refused f) text → ⊥
  lexed f r =
      ⊎_elim
      (λ long. let short = has.has.short in omega (arith, long.0, short))
      (λ first. not_both text has.tokens.items f has.has.lexes first.1)
      r

  module _ (tokens : TokenList) (h : HasTokens text tokens) where
    is_tree : IsTree tokens.items tree
    is_tree = subst (λ z. IsTree z tree) (one_list text has.tokens.items tokens.items has.has.lexes h.lexes) has.is

    deep : (f : Fault) → IsTooDeep tokens f → ⊥
    deep f d =
        let front = kinds d.before ++ d.refused.kind ∷ [] in
        let split : kinds tokens.items ≡ front ++ kinds d.after =
        ap kinds d.split ∙ kinds_append d.before (d.refused ∷ d.after) ∙ sym (append_assoc (kinds d.before) (d.refused.kind ∷ []) (kinds d.after)) in
        let it : Begins front = record { tokens = tokens.items; rest = kinds d.after; functions = tree; split = split; is = is_tree } in
        let more = d.all_deep it in
        let few = has.shallow in
        omega (arith, more, few)

    parsed : (f : Fault) → Refuses (Refused f) tokens → ⊥
    parsed f r = ⊎_elim (λ bad. bad.no_program tree is_tree) (deep f) r

  pub read_not_refused : (f : Fault) → IsUnread text f → ⊥
  read_not_refused f u = ⊎_elim (lexed f) (λ k. parsed k.0 k.1 f k.2) u

  -- what has this tree has no other
  pub one_of : (other : List Read) → HasTree text other → other ≡ tree
  one_of other h =
      one_tree has.tokens.items other tree (subst (λ z. IsTree z other) (one_list text h.tokens.items has.tokens.items h.has.lexes has.has.lexes) h.is) has.is

pub none_refused : NoneRefused
none_refused gang text program f source faulty =
    ⊎_elim
    (read_not_refused text source.tree source.has f)
    (λ k. no_program gang source.tree f program (subst (λ t. IsUnsound gang t f) (one_of text source.tree source.has k.0 k.1) k.2) source.checked)
    faulty
