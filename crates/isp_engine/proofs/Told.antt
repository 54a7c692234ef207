-- What has gone out of a line that is written piece by piece.
use Rattle.std.proofs.Common.{◌≡◌, ◌++◌, ◌+◌, ◌<◌, ◌≤◌, ℕ, List, [], ◌∷◌, Bool, true, false, Result, Ok, Err, Option, refl, sym, ap, ◌∙◌, subst, inl, inr}
use Rattle.std.proofs.Common.{append_assoc, append-nil, drop, drop-cons, add-one, get_or, length}
use Rattle.std.specs.Prelude.{flat_map, ⊤}
use Rattle.std.proofs.lemmas.List.{drop_all}
use Rattle.isp_output.specs.Sinks.{TookAll, TookSome}
use Rattle.isp_output.specs.declared.sink.SinkFault.{SinkFault}
use Rattle.isp_output.proofs.Written.{adds_nil, took_early, took_later}
use Rattle.isp_engine.specs.Told.{Wrote, Told}

-- ---- pieces one after the other: what went out, and what is left

module _ {X : Type 0} (f : X → List ℕ) (xs : List X) (i : ℕ) (d : X) (within : i < length xs) (done all : List ℕ) (whole : done ++ flat_map f (drop i xs) ≡ all) (bytes : List ℕ) (is : bytes ≡ f (get_or xs i d)) where
  split : drop i xs ≡ get_or xs i d ∷ drop (i + 1) xs
  split = drop-cons xs i d within ∙ ap (λ k. get_or xs i d ∷ drop k xs) (sym (add-one i))

  pub piece_next : (done ++ bytes) ++ flat_map f (drop (i + 1) xs) ≡ all
  piece_next =
      append_assoc done bytes (flat_map f (drop (i + 1) xs))
      ∙ ap (λ z. done ++ (z ++ flat_map f (drop (i + 1) xs))) is
      ∙ ap (λ z. done ++ flat_map f z) (sym split)
      ∙ whole

  pub piece_cut : (o m n : Option (List ℕ)) (a b : Bool) → TookAll done o m a → TookSome bytes m n b → TookSome all o n b
  piece_cut o m n a b h k =
      subst (λ z. TookSome z o n b) piece_next (took_early (done ++ bytes) (flat_map f (drop (i + 1) xs)) o n b (took_later done bytes o m n a b h k))

pub pieces_all : {X : Type 0} (f : X → List ℕ) (xs : List X) (i : ℕ) → length xs ≤ i → (done all : List ℕ) → done ++ flat_map f (drop i xs) ≡ all → (o n : Option (List ℕ)) (a : Bool) → TookAll done o n a → TookAll all o n a
pieces_all f xs i past done all whole o n a h =
    let none : drop i xs ≡ [] = drop_all i xs past in
    subst (λ z. TookAll z o n a) (sym (append-nil done) ∙ ap (λ z. done ++ flat_map f z) (sym none) ∙ whole) h

-- ---- a line, of whose fault nothing more is told

pub told : (bytes : List ℕ) (old new : Option (List ℕ)) (failed : Bool) (r : Result ⊤ SinkFault) → Wrote bytes old new failed r → Told bytes old new failed
told bytes old new failed (Ok u) h = inl h
told bytes old new failed (Err e) h = inr h

pub told_none : (bytes : List ℕ) (o : Option (List ℕ)) (f : Bool) → f ≡ true → Told bytes o o f
told_none bytes o f e = inr ((0, sym (adds_nil o)), e)

pub told_nothing : (o : Option (List ℕ)) (f : Bool) → Told [] o o f
told_nothing o true = inr ((0, sym (adds_nil o)), refl)
told_nothing o false = inl (sym (adds_nil o), refl)
