-- A read and a save answer by the length of their buffer alone.
use Rattle.std.proofs.Common.{◌≡◌, ℕ, length, Ok, Err, Result, refl}
use Rattle.std.proofs.lemmas.List.{length-replicate}
use Rattle.std.specs.Prelude.{replicate}
use Rattle.rules.specs.declared.refusal.Refusal.{Refusal}
use Rattle.rules.specs.State.{Bytes, State}
use Rattle.rules.specs.Devices.Device.{made}
use Rattle.rules.specs.Calls.{Reads, ReadsInto}
use Rattle.rules.specs.Runs.{Saves, SavesInto, WithBuffer}

-- Whatever its buffer held, a read of this length answers so.
pub read_rule : (s : State) (n len : ℕ) (r : Result Bytes Refusal) (t : State) → WithBuffer (ReadsInto (made s) n) len r (made t) → Reads s n len r t
read_rule s n len r t (before, after, long, (rule, full)) = rw (← long) rule

-- Some buffer of this length is read into.
pub some_read : (s : State) (n len : ℕ) (r : Result Bytes Refusal) (t : State) → Reads s n len r t → WithBuffer (ReadsInto (made s) n) len r (made t)
some_read s n len r t rule =
    let long : length (replicate len 0) ≡ len = length-replicate len 0 in
    (replicate len 0, _, long, (rw long rule, refl))

-- Whatever its buffer held, a save of this length answers so.
pub save_rule : (s : State) (len : ℕ) (r : Result ℕ Refusal) (t : State) → WithBuffer (SavesInto (made s)) len r (made t) → Saves s len r t
save_rule s len r t (before, after, long, (rule, kept)) = rw (← long) rule

-- Some buffer of this length is saved into.
pub some_save : (s : State) (len : ℕ) (r : Result ℕ Refusal) (t : State) → Saves s len r t → WithBuffer (SavesInto (made s)) len r (made t)
some_save s len (Ok size) t rule =
    let long : length (replicate len 0) ≡ len = length-replicate len 0 in
    (replicate len 0, replicate len 0, long, (rw long rule, (refl, refl)))
some_save s len (Err e) t rule =
    let long : length (replicate len 0) ≡ len = length-replicate len 0 in
    (replicate len 0, replicate len 0, long, (rw long rule, refl))
