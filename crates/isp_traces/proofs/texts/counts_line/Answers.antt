use Rattle.std.proofs.Common.{rules, ◌≡◌, sym, ap, ◌∙◌, ℕ, List, ◌++◌, length, map}
use Rattle.std.proofs.lemmas.List.{length-map}
use Rattle.isp_base.specs.Types.{gang_width}
use Rattle.isp_code.specs.Listing.{Listing, Routine, routine_of}
use Rattle.isp_traces.specs.Texts.{kind_names, members_text, routine_name, tally_text}
use Rattle.isp_traces.specs.declared.tallies.Tally.{Tally}
use Rattle.isp_traces.proofs.Pushed.{counts_pushed}
use Rattle.isp_traces.proofs.texts.counts_line.Goals as goal

pub returns : goal.returns
returns c =
    let code = c.args.code.now in
    let counts = c.args.counts.now in
    let fs = c.functions.result.now in
    let w = gang_width code.gang in
    let wide : c.width-width.result ≡ w = search rules in
    let same : map routine_of fs ≡ code.routines = c.functions.ensures.same ∙ ap (λ (l : Listing). l.routines) c.code.ensures.same in
    let count : length fs ≡ length code.routines = sym (length-map fs routine_of) ∙ ap length same in
    let t1 = c.in_ok-text.text.items in
    let t2 = c.push_tally.new.text.items in
    let t3 = c.extend_from_slice.new.self.items in
    let t4 = c.push_functions.new.text.items in
    let t5 = c.extend_from_slice-2.new.self.items in
    let t6 = c.push_kinds.new.text.items in
    let t7 = c.extend_from_slice-3.new.self.items in
    counts_pushed code counts t1 t2 t3 t4 t5 t6 t7
    c.in_ok-text.ensures.items
    (c.in_ok-push_tally.ensures ∙ ap (λ (n : ℕ). t1 ++ tally_text n counts.total) wide)
    c.in_ok-extend_from_slice.ensures.items
    (c.in_ok-push_functions.ensures
    ∙ ap (λ (n : ℕ). t3 ++ members_text n (map routine_name (map routine_of fs)) c.deref.result.now (length fs)) wide
    ∙ ap (λ (rs : List Routine). t3 ++ members_text w (map routine_name rs) c.deref.result.now (length fs)) same
    ∙ ap (λ (ts : List Tally). t3 ++ members_text w (map routine_name code.routines) ts (length fs)) c.deref.ensures.value
    ∙ ap (λ (k : ℕ). t3 ++ members_text w (map routine_name code.routines) counts.functions.items k) count)
    c.in_ok-extend_from_slice-2.ensures.items
    (c.in_ok-push_kinds.ensures
    ∙ ap (λ (n : ℕ). t5 ++ members_text n kind_names c.deref-2.result.now 8) wide
    ∙ ap (λ (ts : List Tally). t5 ++ members_text w kind_names ts 8) c.deref-2.ensures.value)
    c.in_ok-extend_from_slice-3.ensures.items
