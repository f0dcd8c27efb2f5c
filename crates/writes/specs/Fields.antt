-- The fields of a strict line, as a caller has them.
use Rattle.std.specs.Prelude as std
use Rattle.std.specs.Prelude.{ℕ, List}
use Rattle.std.proofs.Math.Option.{Option}
use Rattle.grammar.specs.Line.{Element}
use Rattle.record.specs.declared.Timestamp.{Timestamp}

-- Texts as bytes; what may be absent is an option. A parameter's value is raw: what it stands for, with no escapes.
pub record Fields : Type 0 where
  pub priority : ℕ
  pub version : ℕ
  pub timestamp : std.Option Timestamp
  pub host : Option (List ℕ)
  pub app : Option (List ℕ)
  pub procid : Option (List ℕ)
  pub msgid : Option (List ℕ)
  pub elements : List Element
  pub message : Option (List ℕ)
