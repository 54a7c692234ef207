-- The verdict on an item, and on one more item of a declaration.
use Rattle.std.proofs.Common.{◌≡◌, ℕ, ◌+◌, ◌<◌, refl, sym, ap, ◌∙◌, drop, get_or}
use Rattle.std.specs.Prelude.{List, length, map, Option, Result}
use Rattle.isp_base.specs.declared.types.Gang.{Gang}
use Rattle.isp_lex.specs.declared.fault.Fault.{Fault}
use Rattle.isp_tree.specs.declared.types.Word.{Word}
use Rattle.isp_tree.specs.declared.stmt.Item as rust_item
use Rattle.isp_tree.specs.Tree.{Item, plain, with_value, with_size}
use Rattle.isp_tree.specs.Views.{item_of}
use Rattle.isp_typed.specs.declared.variable.Variable.{Variable}
use Rattle.isp_typed.specs.Verdicts.{both, made}
use Rattle.isp_typed.specs.Typed.{TItem}
use Rattle.isp_exprs.specs.declared.scope.Binding.{Binding}
use Rattle.isp_exprs.specs.declared.words.ValueWords.{ValueWords}
use Rattle.isp_exprs.specs.Callees.{Heading}
use Rattle.isp_types.specs.Numbering.{or_nothing, item_word, item_names, item_variables, items_names, items_variables}
use Rattle.isp_types.specs.Declarations.{item_typing, items_typing}
use Rattle.isp_exprs.specs.reader.Lists.{and_one}
use Rattle.isp_types.specs.reader.Lists.{item_verdict, twice}
use Rattle.isp_exprs.proofs.Gathered.{before, before_one, split_at}

module _ (gang : Gang) (r : Result ValueWords Fault) (all : List rust_item.Item) (i : ℕ) (x : rust_item.Item) (h : i < length all) (e : x ≡ get_or all i x)
    (ns after : List Binding) (vars later : List Variable) (n : after ≡ item_names gang r ns vars (item_of x)) (v : later ≡ item_variables gang r vars (item_of x)) where
  pub items_step : (hs : List Heading) (start : ℕ) (so more total : Result (List TItem) Fault) (one : Result TItem Fault)
      → one ≡ (item_typing gang hs r start ns vars (item_of x)).verdict
      → more ≡ made and_one (both so one)
      → before so (items_typing gang hs r start ns vars (map item_of (drop i all))).verdict ≡ total
      → before more (items_typing gang hs r start after later (map item_of (drop (i + 1) all))).verdict ≡ total
  items_step hs start so more total one p q k =
      let rest = map item_of (drop (i + 1) all) in
      let step = (item_typing gang hs r start ns vars (item_of x)).verdict in
      ap (λ (z : Result (List TItem) Fault). before z (items_typing gang hs r start after later rest).verdict) (q ∙ ap (λ (z : Result TItem Fault). made and_one (both so z)) p)
      ∙ (ap (λ (z : List Binding). before (made and_one (both so step)) (items_typing gang hs r start z later rest).verdict) n
      ∙ (ap (λ (z : List Variable). before (made and_one (both so step)) (items_typing gang hs r start (item_names gang r ns vars (item_of x)) z rest).verdict) v
      ∙ (before_one so step (items_typing gang hs r start (item_names gang r ns vars (item_of x)) (item_variables gang r vars (item_of x)) rest).verdict
      ∙ (ap (λ (z : List rust_item.Item). before so (items_typing gang hs r start ns vars (map item_of z)).verdict) (sym (split_at all i x h e)) ∙ k))))

  pub names_step : (total : List Binding) → items_names gang r ns vars (map item_of (drop i all)) ≡ total → items_names gang r after later (map item_of (drop (i + 1) all)) ≡ total
  names_step total k =
      let rest = map item_of (drop (i + 1) all) in
      ap (λ (z : List Binding). items_names gang r z later rest) n
      ∙ (ap (λ (z : List Variable). items_names gang r (item_names gang r ns vars (item_of x)) z rest) v
      ∙ (ap (λ (z : List rust_item.Item). items_names gang r ns vars (map item_of z)) (sym (split_at all i x h e)) ∙ k))

  pub variables_step : (total : List Variable) → items_variables gang r vars (map item_of (drop i all)) ≡ total → items_variables gang r later (map item_of (drop (i + 1) all)) ≡ total
  variables_step total k =
      let rest = map item_of (drop (i + 1) all) in
      ap (λ (z : List Variable). items_variables gang r z rest) v
      ∙ (ap (λ (z : List rust_item.Item). items_variables gang r vars (map item_of z)) (sym (split_at all i x h e)) ∙ k)

module _ (gang : Gang) (hs : List Heading) (ns : List Binding) (r : Result ValueWords Fault) (start : ℕ) (vars : List Variable) where
  with_is : (i : Item) → item_verdict gang hs ns (twice (item_word i) start ns) (length vars) (or_nothing r) i ≡ (item_typing gang hs r start ns vars i).verdict
  with_is (plain w) = refl
  with_is (with_value w x s) = refl
  with_is (with_size w n s) = refl

  pub item_is : (i : Item) (seen : Option Fault) (k : ℕ) (v : ValueWords) (w : Word) → seen ≡ twice w start ns → w ≡ item_word i → k ≡ length vars → v ≡ or_nothing r
      → item_verdict gang hs ns seen k v i ≡ (item_typing gang hs r start ns vars i).verdict
  item_is i seen k v w s e n o =
      ap (λ (z : Option Fault). item_verdict gang hs ns z k v i) (s ∙ ap (λ (z : Word). twice z start ns) e)
      ∙ (ap (λ (z : ℕ). item_verdict gang hs ns (twice (item_word i) start ns) z v i) n
      ∙ (ap (λ (z : ValueWords). item_verdict gang hs ns (twice (item_word i) start ns) (length vars) z i) o ∙ with_is i))
