use Rattle.std.proofs.Common.{rules}
use Rattle.settings.proofs.Writing.{record_laws, version_byte}
use Rattle.settings.proofs.put_record.Goals as goal

pub overflow_cast-version : goal.overflow_cast-version
overflow_cast-version c = search (record_laws, version_byte, rules)

pub overflow_cast-len : goal.overflow_cast-len
overflow_cast-len c = search (record_laws, version_byte, rules)

pub overflow_cast-year : goal.overflow_cast-year
overflow_cast-year c = search (record_laws, version_byte, rules)

pub overflow_cast-gate : goal.overflow_cast-gate
overflow_cast-gate c = search (record_laws, version_byte, rules)

pub to_bits-requires : goal.to_bits-requires
to_bits-requires c = search (record_laws, version_byte, rules)

pub put_host-last-requires : goal.put_host-last-requires
put_host-last-requires c = search (record_laws, version_byte, rules)

pub overflow_cast-variant : goal.overflow_cast-variant
overflow_cast-variant c = search (record_laws, version_byte, rules)

pub put_end-requires : goal.put_end-requires
put_end-requires c = search (record_laws, version_byte, rules)

pub returns : goal.returns
returns c = search (record_laws, rules)
