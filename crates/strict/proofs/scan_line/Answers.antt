use Rattle.std.proofs.Common.{◌∙◌, rules}
use Rattle.strict.proofs.Scans.{scan_laws, scan_none, scan_message, scan_short}
use Rattle.strict.proofs.scan_line.Goals as goal

pub returns-in_err-h : goal.returns-in_err-h
returns-in_err-h c = c.from_residual.ensures ∙ search (scan_laws, c.in_err-h.was, rules)

pub past-s-requires : goal.past-s-requires
past-s-requires c = search (scan_laws, c.in_ok-h.was, rules)

pub count_data-requires : goal.count_data-requires
count_data-requires c = search (scan_short, rules)

pub returns-in_err-len : goal.returns-in_err-len
returns-in_err-len c = c.from_residual-in_err-len.ensures ∙ search (scan_laws, c.in_ok-h.was, c.in_err-len.was, rules)

pub past-requires : goal.past-requires
past-requires c = search (scan_laws, c.in_ok-h.was, c.in_ok-len.was, rules)

pub returns-in-NoTail : goal.returns-in-NoTail
returns-in-NoTail c = search (scan_laws, c.in_ok-h.was, c.in_ok-len.was, rules)

pub record_of-reading-requires : goal.record_of-reading-requires
record_of-reading-requires c = search (scan_laws, c.in_ok-h.was, c.in_ok-len.was, rules)

pub overflow_add-at : goal.overflow_add-at
overflow_add-at c = search (scan_laws, c.in_ok-h.was, c.in_ok-len.was, rules)

pub overflow_add-at-in-IsMessage : goal.overflow_add-at-in-IsMessage
overflow_add-at-in-IsMessage c = search (scan_laws, c.in_ok-h.was, c.in_ok-len.was, rules)

pub record_of-reading-requires-in-IsMessage : goal.record_of-reading-requires-in-IsMessage
record_of-reading-requires-in-IsMessage c = search (scan_laws, c.in_ok-h.was, c.in_ok-len.was, rules)

pub returns-in-NoMessage : goal.returns-in-NoMessage
returns-in-NoMessage c = scan_none _ _ c.read_header.ensures _ c.in_ok-h.was _ c.past-s.ensures _ c.count_data.ensures _ _ _ c.in_ok-len.was _ c.past.ensures _
    c.read_tail.ensures c.in-NoMessage.is _ c.record_of-reading.ensures

pub returns-in-IsMessage : goal.returns-in-IsMessage
returns-in-IsMessage c = scan_message _ _ c.read_header.ensures _ c.in_ok-h.was _ c.past-s.ensures _ c.count_data.ensures _ _ _ c.in_ok-len.was _ c.past.ensures _
    c.read_tail.ensures _ c.in-IsMessage.is _ c.record_of-reading-in-IsMessage.ensures
