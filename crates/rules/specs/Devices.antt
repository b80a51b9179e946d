-- A device after its making, and what a call on it means, made or not.
use Rattle.std.specs.Prelude.{◌≡◌, Err, Result}
use Rattle.flash.specs.Part.{Part}
use Rattle.rules.specs.declared.refusal.Refusal.{Refusal}
use Rattle.rules.specs.State.{State}

-- A device is made and has its state, or its making was refused: then it is unmade, and holds that refusal and its part.
pub data Device : Type 0 where
  made : State → Device
  unmade : Refusal → Part → Device

-- A call on any device, where `rule` is the call's on a made one. A made device obeys it, from its state to the state after. An
-- unmade one answers the refusal of its making to every call, and stays what it is, its part as it was.
abbrev pub OnDevice : {X : Type 0} → (State → Result X Refusal → State → Type 0) → Device → Result X Refusal → Device → Type 0
OnDevice rule (made s) r (made t) = rule s r t
OnDevice rule (made s) r (unmade e p) = ⊥
OnDevice rule (unmade e p) r d = (r ≡ Err e) × (d ≡ unmade e p)
