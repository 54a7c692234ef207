-- Elements are reached, read and written by code that has its operands.
use Rattle.std.proofs.Common.{◌≡◌, ℕ, ◌+◌, ◌<◌, ◌≤◌, List, length, Bool, true, false, refl, sym, ◌∙◌, subst}
use Rattle.isp_base.specs.declared.types.Elem.{Elem}
use Rattle.isp_base.specs.declared.types.Rate.{Rate}
use Rattle.isp_base.specs.declared.types.Rate.TheVariants.{Varying}
use Rattle.isp_base.specs.declared.types.Span.{Span}
use Rattle.isp_base.specs.declared.types.Ty.{Ty}
use Rattle.isp_code.specs.Listing.{Listing, Routine}
use Rattle.isp_code.specs.declared.instr.Instr.{Instr}
use Rattle.isp_typed.specs.Typed.{TExpr, TFunction, t_element, type_of}
use Rattle.isp_typed.specs.declared.variable.ArrayVariable.{ArrayVariable}
use Rattle.isp_lower_code.specs.Asks.{target_asks}
use Rattle.isp_lower_code.specs.Elements.{access, access_by, index_by, is_run, reached, reached_of, read_from, takes_row, write_from}
use Rattle.isp_lower_code.specs.Layout.{Layout}
use Rattle.isp_lower_code.specs.Rated.{Reaches}
use Rattle.isp_lower_code.specs.RowAccess.{RowThere}
use Rattle.isp_lower_code.specs.Sound.{Granted, HasArray, IsRegister, Links, RowLinked}
use Rattle.isp_lower_code.specs.Spans.{expr_places}
use Rattle.isp_lower_code.proofs.RowScalars.{TakesRow, takes}
use Rattle.isp_lower_code.proofs.RowSound.{rows_sound}
use Rattle.isp_lower_code.proofs.SoundFound.{element_index_there}
use Rattle.isp_lower_code.proofs.SoundLines.{IsArray, array_is, read_by_sound, write_by_sound}
use Rattle.isp_lower_code.proofs.SoundParts.{Here, element_index_sound}
use Rattle.isp_lower_code.proofs.Trees.{PlaceTree}

module _ (code : Listing) (h : Routine) (l : Layout) where
  -- the places are there that some trees name
  abbrev pub Named : ℕ → List Span → Type 0
  Named p places = p + length places ≤ length code.places

  -- an array has elements of the type of a place, and is shared where the place is uniform
  pub array_there : (b : ArrayVariable) (r : Rate) (t : Elem) → HasArray h l b → Reaches b.ty.rate r → b.ty.elem ≡ t → IsArray code h r (l.array b.number) t
  array_there b r t f re e = array_is code h b.ty.rate r b.ty.elem t (l.array b.number) f re e

module _ (fs : List TFunction) (code : Listing) (h : Routine) (l : Layout) (links : Links fs code h l) (b : ArrayVariable) (i : TExpr) (t : Ty) (sp : Span) (n : ℕ)
    (is : PlaceTree fs (t_element b i t sp)) (f : Granted h l (target_asks (t_element b i t sp) n)) where
  abbrev by_run : Bool
  by_run = is_run l b.ty.rate i

  abbrev row : Bool
  row = takes_row (l.is_row i n) b.ty.rate t.rate

  linked : TakesRow l b.ty.rate t.rate i n → RowLinked code h l i n
  linked taken = links.rows is.4.0 i n is.4.1 is.4.2 taken.taken

  there : TakesRow l b.ty.rate t.rate i n → (pc p k m : ℕ) → n < m → m ≤ n + 3 → k < h.masks → p < length code.places → pc + 12 < length h.code
      → RowThere code h l b (type_of i).elem (l.row_at i n) pc p k m
  there taken pc p k m low high lk lp lt =
      let it = linked taken in
      record { array = f.0; shared = taken.shared; row = it.row; scalar = it.scalar; granted = it.granted m low high; mask = lk; place = lp; ends = lt }

  -- a register of the element's type has that of the array's elements
  each_of : TakesRow l b.ty.rate t.rate i n → (v : ℕ) → IsRegister h t.rate v t.elem → IsRegister h Varying v b.ty.elem
  each_of taken v hv = let hx = subst (λ r. IsRegister h r v t.elem) taken.each hv in (hx.0, hx.1 ∙ sym is.3)

  -- the code by which it is reached
  pub reached_sound : (pc p k : ℕ) (a : List Instr) → k < h.masks → Named code h l p (expr_places l i) → Here code h pc a
      → Here code h pc (reached_of l (access l b.ty.rate t.rate i n) t.rate i pc p k n a)
  reached_sound pc p k a lk lp s = go row refl
    where
      go : (d : Bool) → row ≡ d → Here code h pc (reached_of l (access_by d by_run) t.rate i pc p k n a)
      go false e = element_index_sound code h fs l links.constants b t.rate i pc k n a is.1 is.2 f.1 lk s
      go true e = λ lt. (linked (takes l b.ty.rate t.rate i n e)).sound pc p k lk lp lt

  pub read_from_sound : (d pc p k m : ℕ) → n < m → m ≤ n + 3 → IsRegister h t.rate d t.elem → k < h.masks → p < length code.places
      → Here code h pc (read_from l (access l b.ty.rate t.rate i n) (type_of i).elem t.rate d (l.array b.number) (reached l (access l b.ty.rate t.rate i n) t.rate i n) p pc k m)
  read_from_sound d pc p k m low high hd lk lp = go row refl
    where
      go : (z : Bool) → row ≡ z
          → Here code h pc (read_from l (access_by z by_run) (type_of i).elem t.rate d (l.array b.number) (reached l (access_by z by_run) t.rate i n) p pc k m)
      go false e = λ lt. (
        read_by_sound code h by_run t.rate t.elem d (l.array b.number) (index_by l by_run t.rate i n) k p hd (array_there code h l b t.rate t.elem f.0 is.0 is.3)
            (element_index_there fs h l links.constants code b t.rate i n is.1 is.2 f.0 f.1) lk lp,
        tt,
      )
      go true e =
          let taken = takes l b.ty.rate t.rate i n e in
          λ lt. rows_sound.reads code h l b (type_of i).elem (l.row_at i n) pc p k m d (there taken pc p k m low high lk lp lt) (each_of taken d hd)

  pub write_from_sound : (v pc p k m : ℕ) → n < m → m ≤ n + 3 → IsRegister h t.rate v t.elem → k < h.masks → p < length code.places
      → Here code h pc (write_from l (access l b.ty.rate t.rate i n) (type_of i).elem t.rate (l.array b.number) (reached l (access l b.ty.rate t.rate i n) t.rate i n) v p pc k m)
  write_from_sound v pc p k m low high hv lk lp = go row refl
    where
      go : (z : Bool) → row ≡ z
          → Here code h pc (write_from l (access_by z by_run) (type_of i).elem t.rate (l.array b.number) (reached l (access_by z by_run) t.rate i n) v p pc k m)
      go false e = λ lt. (
        write_by_sound code h by_run t.rate t.elem (l.array b.number) (index_by l by_run t.rate i n) v k p (array_there code h l b t.rate t.elem f.0 is.0 is.3)
            (element_index_there fs h l links.constants code b t.rate i n is.1 is.2 f.0 f.1) hv lk lp,
        tt,
      )
      go true e =
          let taken = takes l b.ty.rate t.rate i n e in
          λ lt. rows_sound.writes code h l b (type_of i).elem (l.row_at i n) pc p k m v (there taken pc p k m low high lk lp lt) (each_of taken v hv)
