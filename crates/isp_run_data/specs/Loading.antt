-- What the words of a run give, with what their files hold. `datas name bytes` says that under a name these bytes may be found, or nothing
-- that can be read.
--     IsContent     what stands for a parameter is what its word says
--     IsLoaded      the words, with what their files hold
--     IsUnloaded    why there is no such thing
use Rattle.std.specs.Prelude.{◌≡◌, ◌⊎◌, ℕ, List, [], ◌∷◌, codes, string_bytes, IsUtf8, Option, Some, None}
use Rattle.isp_run_stops.specs.Stopping.{IsSlip}
use Rattle.isp_run_stops.specs.declared.stop.RunStop.{RunStop}
use Rattle.isp_run_stops.specs.declared.stop.RunStop.TheVariants.{BadWord, CannotRead, Memory}
use Rattle.isp_run_words.specs.Saying.{IsWord}
use Rattle.isp_run_words.specs.declared.given.Content.{Content}
use Rattle.isp_run_words.specs.declared.given.Content.TheVariants.{Json, Npy, Image, Zeros}
use Rattle.isp_run_words.specs.declared.given.Given.{Given}
use Rattle.isp_run_words.specs.declared.given.Words.{Words}
use Rattle.isp_run_words.specs.declared.given.Words.TheVariants.{Whole, Each}
use Rattle.isp_run_words.specs.declared.words.Format.TheVariants as format
use Rattle.isp_run_words.specs.declared.words.Value.{Value}
use Rattle.isp_run_words.specs.declared.words.Value.TheVariants as value
use Rattle.isp_run_words.specs.declared.request.RunWords.{RunWords}
use denote.Ref.{Bor}

abbrev pub Datas : Type 1
Datas = List ℕ → Option (List ℕ) → Type 0

-- ---- one word

abbrev pub IsContent : Datas → Value → Content → Type 0
IsContent datas (value.Literal t) (Json text) = string_bytes text ≡ t.now
IsContent datas value.Input (Json text) = datas (codes "/dev/stdin") (Some (string_bytes text))
IsContent datas (value.File name (Some format.Json)) (Json text) = datas name.now (Some (string_bytes text))
IsContent datas (value.File name (Some format.Npy)) (Npy bytes) = datas name.now (Some bytes.items)
IsContent datas (value.File name (Some format.Pgm)) (Image bytes) = datas name.now (Some bytes.items)
IsContent datas (value.File name (Some format.Ppm)) (Image bytes) = datas name.now (Some bytes.items)
IsContent datas (value.Zeros (Some n)) (Zeros m) = m ≡ n
IsContent datas v c = ⊥

-- the word is `NAME=VALUE`, and this is what its value stands for
pub record IsGiven (datas : Datas) (word : List ℕ) (g : Given) : Type 0 where
  pub name : Bor (List ℕ)
  pub value : Value
  pub says : IsWord word (Some (Some name, value))
  pub is : g.name ≡ name.now
  pub content : IsContent datas value g.content

-- ---- all words

abbrev pub EachGiven : Datas → List (Bor (List ℕ)) → List Given → Type 0
EachGiven datas [] [] = Unit {0}
EachGiven datas [] (g ∷ gs) = ⊥
EachGiven datas (w ∷ ws) [] = ⊥
EachGiven datas (w ∷ ws) (g ∷ gs) = IsGiven datas w.now g × EachGiven datas ws gs

-- the one word has no name, and holds all arguments
pub record IsAll (datas : Datas) (ws : List (Bor (List ℕ))) (c : Content) : Type 0 where
  pub word : Bor (List ℕ)
  pub alone : ws ≡ word ∷ []
  pub value : Value
  pub says : IsWord word.now (Some (None, value))
  pub content : IsContent datas value c

abbrev pub IsLoaded : Datas → List (Bor (List ℕ)) → Words → Type 0
IsLoaded datas ws (Whole text) = IsAll datas ws (Json text)
IsLoaded datas ws (Each gs) = EachGiven datas ws gs.items

-- ---- or a file that cannot be read

-- nothing can be read there, or what holds no text
abbrev pub IsUnread : Datas → List ℕ → Type 0
IsUnread datas name = datas name None ⊎ ((bytes : List ℕ) × datas name (Some bytes) × (IsUtf8 bytes → ⊥))

abbrev pub IsUnloaded : Datas → RunWords → RunStop → Type 0
IsUnloaded datas q (BadWord w s) = IsSlip q w.now s
IsUnloaded datas q (CannotRead name) = IsUnread datas name.now
IsUnloaded datas q Memory = Unit {0}
IsUnloaded datas q stop = ⊥
