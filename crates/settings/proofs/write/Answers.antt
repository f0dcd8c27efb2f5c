use Rattle.std.proofs.Common.{rules}
use Rattle.base.proofs.Tests.{told}
use Rattle.settings.proofs.Writing.{write_laws}
use Rattle.settings.proofs.write.Goals as goal

pub returns-then-not-is_version : goal.returns-then-not-is_version
returns-then-not-is_version c = search (told, write_laws, rules)

pub returns-then-not-is_in_range : goal.returns-then-not-is_in_range
returns-then-not-is_in_range c = search (told, write_laws, rules)

pub returns-then-output-lt-RECORD_SIZE : goal.returns-then-output-lt-RECORD_SIZE
returns-then-output-lt-RECORD_SIZE c = search (told, write_laws, rules)

pub put_record-requires : goal.put_record-requires
put_record-requires c = search (told, write_laws, rules)

pub returns : goal.returns
returns c = search (told, write_laws, rules)
