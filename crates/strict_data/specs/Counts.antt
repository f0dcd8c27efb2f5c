-- For private contracts alone: what the code keeps of the structured data and of the message that the parser of `grammar` finds: lengths and counts.
use Rattle.std.specs.Prelude.{ℕ, List, length, Some, None}
use Rattle.std.specs.Prelude as std
use Rattle.std.proofs.Math.Option.{Option, none, some}
use Rattle.grammar.specs.Line.{Element}
use Rattle.grammar.specs.Parse.{Parsed}
use Rattle.grammar.specs.Parse.Parsed.{failed, found}
use Rattle.grammar.specs.Reading.{param_count}
use Rattle.strict_data.specs.declared.Counts.{Counts}
use Rattle.strict_data.specs.declared.Tail.{Tail}
use Rattle.strict_data.specs.declared.Tail.TheVariants.{NoTail, NoMessage, IsMessage}

abbrev pub counts_of : Parsed (List Element) → std.Option Counts
counts_of failed = None
counts_of (found es n) = Some (record { len = n; elements = length es; params = param_count es })

abbrev pub tail_of : Parsed (Option (List ℕ)) → Tail
tail_of failed = NoTail
tail_of (found none n) = NoMessage
tail_of (found (some m) n) = IsMessage (length m)
