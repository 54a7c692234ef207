-- What the line of a fact makes so.
use Rattle.std.proofs.Common.{◌≡◌, ℕ, ◌<◌, List, Option, Some, None, true, ◌&&◌, sym, ap, ◌∙◌, subst, Contains, eqb-true}
use Rattle.std.proofs.lemmas.Bool.{and_parts, lt-ltb}
use Rattle.std.specs.Prelude.{nat_eq, if◌then◌else◌}
use Rattle.isp_base.specs.Maps.{Lanes, on, over, or_old}
use Rattle.isp_base.specs.Sets.{Mask, everyone}
use Rattle.isp_base.specs.Types.{gang_width}
use Rattle.isp_base.specs.Values.{wrap}
use Rattle.isp_code.specs.Conf.{Conf, Move, Go, Say, Fail, Over}
use Rattle.isp_code.specs.Lines.{act}
use Rattle.isp_code.specs.Listing.{Listing, Routine}
use Rattle.isp_code.specs.Registers.{elem_of, same_class}
use Rattle.isp_code.specs.declared.instr.Instr.{Instr}
use Rattle.isp_code.specs.declared.instr.Instr.TheVariants as instr
use Rattle.isp_code.specs.declared.instr.MaskInstr.TheVariants as mask
use Rattle.isp_code.specs.declared.instr.ScalarInstr.TheVariants as scalar
use Rattle.isp_code.specs.declared.instr.VectorInstr.TheVariants as vector
use Rattle.isp_code.specs.declared.register.Class.TheVariants as class
use Rattle.isp_forms.specs.declared.form.Form.{Form}
use Rattle.isp_constants.specs.declared.fact.Fact.{Fact}
use Rattle.isp_constants.specs.declared.fact.Known.{Known}
use Rattle.isp_constants.specs.declared.fact.Known.TheVariants as known
use Rattle.isp_constants.specs.reader.Passing.{is_in, is_told, same_known, tells, settles_by}
use Rattle.isp_constants.proofs.Lists.{any_has, put_here}

-- something known is so of registers, in a gang of n lanes
abbrev pub IsSo : ℕ → Known → (ℕ → ℕ) → (ℕ → Lanes) → (ℕ → Mask) → Type 0
IsSo n (known.Scalar r b) scalars vectors masks = scalars r ≡ b
IsSo n (known.Vector r b) scalars vectors masks = (p : ℕ) → p < n → vectors r p ≡ b
IsSo n (known.Full k) scalars vectors masks = (p : ℕ) → p < n → masks k p ≡ true

-- so are the facts in whose range an instruction is
abbrev pub AreSo : ℕ → List Fact → ℕ → (ℕ → ℕ) → (ℕ → Lanes) → (ℕ → Mask) → Type 0
AreSo n facts pc scalars vectors masks = (x : Fact) → Contains facts x → is_in x pc ≡ true → IsSo n x.known scalars vectors masks

same_is : (a b : Known) → same_known a b ≡ true → a ≡ b
same_is (known.Scalar r n) (known.Scalar s m) e = let parts = and_parts (nat_eq r s) (nat_eq n m) e in ap (λ t. known.Scalar t n) (eqb-true r s parts.0) ∙ ap (known.Scalar s) (eqb-true n m parts.1)
same_is (known.Vector r n) (known.Vector s m) e = let parts = and_parts (nat_eq r s) (nat_eq n m) e in ap (λ t. known.Vector t n) (eqb-true r s parts.0) ∙ ap (known.Vector s) (eqb-true n m parts.1)
same_is (known.Full k) (known.Full j) e = ap known.Full (eqb-true k j e)
same_is a b e = absurd cc

module _ (n : ℕ) (facts : List Fact) (pc : ℕ) (scalars : ℕ → ℕ) (vectors : ℕ → Lanes) (masks : ℕ → Mask) (so : AreSo n facts pc scalars vectors masks) where
  pub told_so : (k : Known) → tells facts pc k ≡ true → IsSo n k scalars vectors masks
  told_so k e =
      let found = any_has (is_told pc k) facts e in
      let x = found.0 in
      let parts = and_parts (is_in x pc) (same_known x.known k) found.2 in
      subst (λ y. IsSo n y scalars vectors masks) (same_is x.known k parts.1) (so x found.1 parts.0)

module _ (code : Listing) where
  abbrev pub IsSoIn : Known → Conf → Type 0
  IsSoIn k c1 = IsSo (gang_width code.gang) k c1.scalars c1.vectors c1.masks

  -- wherever a move goes
  abbrev pub SoThen : Known → Move → Type 0
  SoThen k (Go c1) = IsSoIn k c1
  SoThen k (Say text c1) = IsSoIn k c1
  SoThen k (Fail t) = Unit {0}
  SoThen k (Over x) = Unit {0}

-- a splat under a mask that has all lanes
splat_so : (a : Mask) (b x : ℕ) (old : Lanes) (p : ℕ) → a p ≡ true → x ≡ b → over (on a (λ q. x)) old p ≡ b
splat_so a b x old p full is = ap (λ t. let o : Option ℕ = if t then Some x else None in or_old o (old p)) full ∙ is

module _ (code : Listing) (h : Routine) (c : Conf) where
  module _ (facts : List Fact) (forms : List Form) (so : AreSo (gang_width code.gang) facts c.pc c.scalars c.vectors c.masks) where
    pub settled_so : (i : Instr) (k : Known) → settles_by facts forms h c.pc i k ≡ true → SoThen code k (act code h c i)
    settled_so (instr.Mask d mask.Full) (known.Full k) e =
        λ p inside. ap (λ f. f p) (put_here c.masks d.number (everyone (gang_width code.gang)) k e) ∙ lt-ltb p (gang_width code.gang) inside
    settled_so (instr.Scalar d (scalar.Constant z)) (known.Scalar r b) e =
        let parts = and_parts (same_class d.class class.Scalar) (nat_eq r d.number && nat_eq b (wrap (elem_of h d) z)) e in
        let both = and_parts (nat_eq r d.number) (nat_eq b (wrap (elem_of h d) z)) parts.1 in
        put_here c.scalars d.number (wrap (elem_of h d) z) r both.0 ∙ sym (eqb-true b (wrap (elem_of h d) z) both.1)
    settled_so (instr.Vector d (vector.Splat s k)) (known.Vector r b) e =
        let parts = and_parts (nat_eq r d.number) (tells facts c.pc (known.Scalar s.number b) && tells facts c.pc (known.Full k.number)) e in
        let both = and_parts (tells facts c.pc (known.Scalar s.number b)) (tells facts c.pc (known.Full k.number)) parts.1 in
        let is = told_so (gang_width code.gang) facts c.pc c.scalars c.vectors c.masks so (known.Scalar s.number b) both.0 in
        let full = told_so (gang_width code.gang) facts c.pc c.scalars c.vectors c.masks so (known.Full k.number) both.1 in
        λ p inside. ap (λ f. f p) (put_here c.vectors d.number (over (on (c.masks k.number) (λ q. c.scalars s.number)) (c.vectors d.number)) r parts.0)
        ∙ splat_so (c.masks k.number) b (c.scalars s.number) (c.vectors d.number) p (full p inside) is
    settled_so i k e = absurd cc
