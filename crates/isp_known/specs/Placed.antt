-- The notes of a program with the places of the names that have none in its typed tree, by the tokens of its text.
--     foreach_active (i) ..            the keyword is token 0, the name token 2 from there; so it is of `foreach_unique (v in e) ..`
--     packed_load_active(base, &x)     the name is the token before the one with which the call ends
use Rattle.std.specs.Prelude.{ℕ, ◌==◌, List, [], ◌∷◌, slice_get, if◌then◌else◌, Option, Some, None, option_map}
use Rattle.isp_lex.specs.declared.token.Token.{Token}
use Rattle.isp_known.specs.declared.note.Note.{Note}
use Rattle.isp_known.specs.declared.note.Note.TheVariants.{Value, Declared, Used, Index, Loaded}

-- where the index is named of the loop whose keyword begins at byte k
abbrev pub index_at : ℕ → List Token → Option ℕ
index_at k [] = None
index_at k (t ∷ ts) = if t.span.start == k then option_map (λ name. name.span.start) (slice_get (t ∷ ts) 2) else index_at k ts

-- where the variable is named that a packed call loads which ends at byte k; `before` is where the token before begins
abbrev pub loaded_at : ℕ → Option ℕ → List Token → Option ℕ
loaded_at k before [] = None
loaded_at k before (t ∷ ts) = if t.span.end == k then before else loaded_at k (Some t.span.start) ts

-- where no such token stands, the note stays as it is
abbrev pub with_place : (ℕ → Note) → Note → Option ℕ → Note
with_place f n None = n
with_place f n (Some start) = f start

abbrev pub placed : List Token → Note → Note
placed ts (Value s t) = Value s t
placed ts (Declared k x) = Declared k x
placed ts (Used k x) = Used k x
placed ts (Index k x) = with_place (λ start. Declared start x) (Index k x) (index_at k ts)
placed ts (Loaded k x) = with_place (λ start. Used start x) (Loaded k x) (loaded_at k None ts)
