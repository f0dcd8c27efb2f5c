use Rattle.std.proofs.Common.{rules, ap, not}
use Rattle.loose.proofs.Judging.{judge_passes, judge_laws}
use Rattle.loose.proofs.judge.Goals as goal

pub returns-then-line-gt-LINE_LIMIT : goal.returns-then-line-gt-LINE_LIMIT
returns-then-line-gt-LINE_LIMIT c = search (judge_laws, rules)

pub returns-then-not-settings_ok : goal.returns-then-not-settings_ok
returns-then-not-settings_ok c = search (judge_laws, rules)

pub returns-then-not-is_utf8 : goal.returns-then-not-is_utf8
returns-then-not-is_utf8 c = search (judge_laws, rules)

pub judge_text-requires : goal.judge_text-requires
judge_text-requires c = judge_passes _ _ _ _ c.ranges.offset c.if-line-gt-LINE_LIMIT.false _ c.settings_ok.ensures (ap not c.if-not-settings_ok.false) _ c.is_utf8.ensures (ap not c.if-not-is_utf8.false)

pub returns : goal.returns
returns c = search (judge_laws, rules)
