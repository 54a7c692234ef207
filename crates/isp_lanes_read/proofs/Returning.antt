-- Back in a call that waited, with its result, alike configurations stay alike.
use Rattle.std.proofs.Common.{◌≡◌, ℕ, List, Option, Some, None, true, false, ◌&&◌, ◌⊎◌, inl, inr, refl, sym, ap, ◌∙◌, eqb-true}
use Rattle.std.proofs.lemmas.Bool.{and_parts, and_left, cases_eq, cases_Bool, false_from_ne_true}
use Rattle.std.specs.Prelude.{nat_eq}
use Rattle.isp_base.specs.Maps.{Lanes, Map, on, over, put}
use Rattle.isp_code.specs.Calls.{resumed, with_result, put_result}
use Rattle.isp_code.specs.Conf.{Conf, Frame}
use Rattle.isp_code.specs.Listing.{Listing}
use Rattle.isp_code.specs.Registers.{same_class}
use Rattle.isp_code.specs.declared.register.Class.{Class}
use Rattle.isp_code.specs.declared.register.Class.TheVariants as class
use Rattle.isp_code.specs.declared.register.Register.{Register}
use Rattle.isp_lanes_read.specs.Lanes.{frame_sets, IsRead}
use Rattle.isp_lanes_read.specs.Reads.{is_vector}
use Rattle.isp_lanes_read.specs.Rows.{Rows, row_at}
use Rattle.isp_lanes_read.specs.Standing.{takes_lanes, is_filled, AllAlike, Alike}
use Rattle.isp_lanes_read.specs.reader.Passing.{gives_something}
use Rattle.isp_lanes_read.proofs.Lists.{put_same, put_other}
use Rattle.isp_lanes_read.proofs.Maps.{SameOn, just_on, on_same, over_some, over_none}
use Rattle.isp_lanes_read.proofs.Readers.{swapped}

module _ (code : Listing) (rows : Rows) where
  -- back in a call that waited, with its result
  module _ (a b : Conf) (fr : Frame) (rest rest1 : List Frame) (vs : ℕ → Lanes) (others : AllAlike code rows rest rest1)
      (kept : (v p : ℕ) → IsRead (frame_sets code fr rest) (row_at rows fr.home.fn fr.pc) v p → is_filled fr.result fr.under v p ≡ false → fr.vectors v p ≡ vs v p)
      (rest_is : b ≡ swapped a b.waiting b.vectors) where
    back_is : resumed b (record fr { vectors = vs }) rest1 ≡ swapped (resumed a fr rest) rest1 vs
    back_is = ap (λ (z : Conf). resumed z (record fr { vectors = vs }) rest1) rest_is

    -- nothing is filled
    unfilled : ((v p : ℕ) → is_filled fr.result fr.under v p ≡ false) → Alike code rows (resumed a fr rest) (resumed b (record fr { vectors = vs }) rest1)
    unfilled none = record { same = back_is; lanes = λ v p r. kept v p r (none v p); waiting = others }

    module _ (d x : Register) (is : fr.result ≡ Some d) where
      not_vector : is_vector d ≡ false → (v p : ℕ) → is_filled fr.result fr.under v p ≡ false
      not_vector e v p = ap (λ o. is_filled o fr.under v p) is ∙ and_left (is_vector d) (nat_eq v d.number && fr.under p) e

      scalar_alike : is_vector d ≡ false → Alike code rows (record (resumed a fr rest) { scalars = put fr.scalars d.number (a.scalars x.number) }) (record (resumed b (record fr { vectors = vs }) rest1) { scalars = put fr.scalars d.number (b.scalars x.number) })
      scalar_alike e =
          record { same = ap (λ (z : Conf). let y : Conf = record (resumed z (record fr { vectors = vs }) rest1) { scalars = put fr.scalars d.number (z.scalars x.number) } in y) rest_is; lanes = λ v p r. kept v p r (not_vector e v p); waiting = others }

      lanes_alike : SameOn fr.under (a.vectors x.number) (b.vectors x.number)
          → Alike code rows (record (resumed a fr rest) { vectors = put fr.vectors d.number (over (on fr.under (a.vectors x.number)) (fr.vectors d.number)) })
          (record (resumed b (record fr { vectors = vs }) rest1) { vectors = put vs d.number (over (on fr.under (b.vectors x.number)) (vs d.number)) })
      lanes_alike same = record { same = ap (λ (z : Conf). let y : Conf = record z { vectors = put vs d.number (over (on fr.under (b.vectors x.number)) (vs d.number)) } in y) back_is; lanes = λ v p r. lanes v p r (cases_eq v d.number); waiting = others }
        where
          at : (f : ℕ → Lanes) (m : Map) (v p : ℕ) → v ≡ d.number → put f d.number (over m (f d.number)) v p ≡ over m (f d.number) p
          at f m v p s = ap (λ u. put f d.number (over m (f d.number)) u p) s ∙ ap (λ l. l p) (put_same f d.number (over m (f d.number)))

          lanes : (v p : ℕ) → IsRead (frame_sets code fr rest) (row_at rows fr.home.fn fr.pc) v p → (v ≡ d.number) ⊎ (v ≡ d.number → ⊥)
              → put fr.vectors d.number (over (on fr.under (a.vectors x.number)) (fr.vectors d.number)) v p ≡ put vs d.number (over (on fr.under (b.vectors x.number)) (vs d.number)) v p
          lanes v p r (inr ne) =
              ap (λ l. l p) (put_other fr.vectors d.number (over (on fr.under (a.vectors x.number)) (fr.vectors d.number)) v ne) ∙ kept v p r off
              ∙ sym (ap (λ l. l p) (put_other vs d.number (over (on fr.under (b.vectors x.number)) (vs d.number)) v ne))
            where
              off : is_filled fr.result fr.under v p ≡ false
              off = ap (λ o. is_filled o fr.under v p) is ∙ false_from_ne_true (is_vector d && (nat_eq v d.number && fr.under p)) (λ t. ne (eqb-true v d.number (and_parts (nat_eq v d.number) (fr.under p) (and_parts (is_vector d) (nat_eq v d.number && fr.under p) t).1).0))
          lanes v p r (inl s) =
              at fr.vectors (on fr.under (a.vectors x.number)) v p s ∙ within (cases_Bool (fr.under p)) ∙ sym (at vs (on fr.under (b.vectors x.number)) v p s)
            where
              within : (fr.under p ≡ true) ⊎ (fr.under p ≡ false) → over (on fr.under (a.vectors x.number)) (fr.vectors d.number) p ≡ over (on fr.under (b.vectors x.number)) (vs d.number) p
              within (inl t) =
                  over_some fr.under (on fr.under (a.vectors x.number)) (just_on fr.under (a.vectors x.number)) p t (fr.vectors d.number) (vs d.number)
                  ∙ ap (λ m. over m (vs d.number) p) (on_same fr.under (a.vectors x.number) (b.vectors x.number) same)
              within (inr f) =
                  over_none fr.under (on fr.under (a.vectors x.number)) (just_on fr.under (a.vectors x.number)) p f (fr.vectors d.number)
                  ∙ ap (λ u. fr.vectors u p) (sym s) ∙ kept v p r off ∙ ap (λ u. vs u p) s
                  ∙ sym (over_none fr.under (on fr.under (b.vectors x.number)) (just_on fr.under (b.vectors x.number)) p f (vs d.number))
                where
                  off : is_filled fr.result fr.under v p ≡ false
                  off = ap (λ o. is_filled o fr.under v p) is ∙ false_from_ne_true (is_vector d && (nat_eq v d.number && fr.under p)) (λ t. let u : true ≡ false = sym (and_parts (nat_eq v d.number) (fr.under p) (and_parts (is_vector d) (nat_eq v d.number && fr.under p) t).1).1 ∙ f in absurd cc)

      put_alike : (k : Class) → d.class ≡ k → (is_vector d ≡ true → SameOn fr.under (a.vectors x.number) (b.vectors x.number))
          → Alike code rows (put_result k a d x fr.under (resumed a fr rest)) (put_result k b d x fr.under (resumed b (record fr { vectors = vs }) rest1))
      put_alike class.Vector e same = lanes_alike (same (ap (λ z. same_class z class.Vector) e))
      put_alike class.Scalar e same = scalar_alike (ap (λ z. same_class z class.Vector) e)
      put_alike class.Mask e same = scalar_alike (ap (λ z. same_class z class.Vector) e)
      put_alike class.Array e same = scalar_alike (ap (λ z. same_class z class.Vector) e)

    pub result_alike : (o x : Option Register) → fr.result ≡ o → (takes_lanes o ≡ true → (gives_something x ≡ true) × ((y : Register) → x ≡ Some y → SameOn fr.under (a.vectors y.number) (b.vectors y.number)))
        → Alike code rows (with_result a o x fr.under (resumed a fr rest)) (with_result b o x fr.under (resumed b (record fr { vectors = vs }) rest1))
    result_alike None x e gives = unfilled (λ v p. ap (λ o. is_filled o fr.under v p) e)
    result_alike (Some d) (Some x) e gives = put_alike d x e d.class refl (λ t. (gives t).1 x refl)
    result_alike (Some d) None e gives = unfilled (not_vector d d e (false_from_ne_true (is_vector d) (λ t. let bad = (gives t).0 in absurd cc)))
