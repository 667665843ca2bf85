-- A wrong number ends a script, but only where the call that it stands in is read to its end. A read that fails ends it at once.
use Rattle.std.specs.Prelude.{Option, Some, None, Result, Ok, Err}
use Rattle.script.specs.declared.input.ScriptError.{ScriptError}
use Rattle.script.specs.declared.input.ScriptError.TheVariants.{Wrong, Io}

abbrev pub passed : {T : Type 0} → Result T ScriptError → Result (Option T) ScriptError
passed (Ok value) = Ok (Some value)
passed (Err Wrong) = Ok None
passed (Err (Io error)) = Err (Io error)
