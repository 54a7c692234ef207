-- Refusals of a part, as refusals of the whole.
use Rattle.std.proofs.Common.{ℕ, List, Result, Ok, Err, IfOk}
use Rattle.isp_base.specs.declared.types.Gang.{Gang}
use Rattle.isp_lex.specs.declared.fault.Fault.{Fault}
use Rattle.isp_front.specs.Front.{IsFaulty}
use Rattle.isp_names.specs.declared.fault.RenameFault.{RenameFault}
use Rattle.isp_names.specs.declared.fault.RenameFault.TheVariants.{Memory, NoProgram, NoName, NotAName, OfLibrary, Clash, Captured}
use Rattle.isp_names.specs.Renames.{Clashes, IsName, Refuses}
use Rattle.isp_names.specs.reader.Naming.{RefusesBy}
use Rattle.isp_names.specs.reader.Replacing.{OnlyClash, OnlyNoProgram}

pub by_another : (P Q : Type 0) → (P → Q) → (name : List ℕ) (e : RenameFault) → RefusesBy P name e → RefusesBy Q name e
by_another P Q f name Memory h = tt
by_another P Q f name (NoProgram g) h = absurd h
by_another P Q f name NoName h = absurd h
by_another P Q f name NotAName h = f h
by_another P Q f name OfLibrary h = h
by_another P Q f name (Clash g) h = absurd h
by_another P Q f name Captured h = absurd h

module _ (gang : Gang) (text : List ℕ) (at : ℕ) (name : List ℕ) where
  pub by_name : (e : RenameFault) → RefusesBy (¬ (IsName name)) name e → Refuses gang text at name e
  by_name Memory h = tt
  by_name (NoProgram g) h = absurd h
  by_name NoName h = absurd h
  by_name NotAName h = h
  by_name OfLibrary h = h
  by_name (Clash g) h = absurd h
  by_name Captured h = absurd h

  pub by_text : (e : RenameFault) → OnlyNoProgram (IsFaulty gang text) e → Refuses gang text at name e
  by_text Memory h = tt
  by_text (NoProgram g) h = h
  by_text NoName h = absurd h
  by_text NotAName h = absurd h
  by_text OfLibrary h = absurd h
  by_text (Clash g) h = absurd h
  by_text Captured h = absurd h

  pub by_clash : (P : Fault → Type 0) → ((f : Fault) → P f → Clashes gang text at name f) → (e : RenameFault) → OnlyClash P e → Refuses gang text at name e
  by_clash P k Memory h = tt
  by_clash P k (NoProgram g) h = absurd h
  by_clash P k NoName h = absurd h
  by_clash P k NotAName h = absurd h
  by_clash P k OfLibrary h = absurd h
  by_clash P k (Clash g) h = k g h
  by_clash P k Captured h = tt

-- what two clauses say of an answer, together
pub both_ok : {T E : Type 0} {P Q R : T → Type 0} (r : Result T E) → ((v : T) → P v → Q v → R v) → IfOk r P → IfOk r Q → IfOk r R
both_ok (Ok v) f p q = f v p q
both_ok (Err e) f p q = tt
