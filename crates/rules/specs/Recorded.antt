-- A recorded call, as the rules have it.
use Rattle.std.specs.Prelude.{vec_items}
use Rattle.rules.specs.declared.call.Call.{Call as RecordedCall}
use Rattle.rules.specs.declared.call.Call.TheVariants.{Write, Read, Trim, Collect, Scan, Usage, Save}
use Rattle.rules.specs.Runs.{Call}
use Rattle.rules.specs.Runs.Call.{write, read, trim, collect, scan, usage, save}

-- The call with its bytes as a list.
abbrev pub call_of : RecordedCall → Call
call_of (Write n bytes) = write n (vec_items bytes)
call_of (Read n len) = read n len
call_of (Trim n) = trim n
call_of Collect = collect
call_of Scan = scan
call_of Usage = usage
call_of (Save len) = save len
