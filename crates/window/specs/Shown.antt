-- What a window shows of the part below it.
use Rattle.std.specs.Prelude.{ℕ, ◌+◌, ◌<◌, length, take, drop, Option, SomeIff}
use Rattle.flash.specs.Part.{Part}
use Rattle.window.specs.declared.window.Window.{Window}

-- The part without its first `hidden` blocks, and of the others the first `count`, as far as they exist.
abbrev pub window_of : Part → ℕ → ℕ → Part
window_of p hidden count =
    record { blocks = take count (drop hidden p.blocks); per_block = p.per_block; endurance = p.endurance }

-- What a window shows, where `shows` says what the part below it shows.
abbrev pub shown : {F : Type 0} → (F → Part) → Window F → Part
shown shows w = window_of (shows w.below) w.hidden w.count

-- The number below of block b, where a window that hides `hidden` blocks shows `seen`; none for a block that is not shown.
abbrev pub Beneath : Part → ℕ → ℕ → Option ℕ → Type 0
Beneath seen hidden b r = SomeIff r (b < length seen.blocks) (hidden + b)
