use Rattle.std.proofs.Common.{arith}
use Rattle.output.proofs.Numerals.{one_digit, wide}
use Rattle.output.proofs.digits_of.Goals as goal

pub returns-then-n-lt10 : goal.returns-then-n-lt10
returns-then-n-lt10 c = search one_digit

pub returns-then-n-lt100 : goal.returns-then-n-lt100
returns-then-n-lt100 c = wide 9 0 _ (omega arith) (omega arith) (omega arith)

pub returns-then-n-lt1000 : goal.returns-then-n-lt1000
returns-then-n-lt1000 c = wide 9 1 _ (omega arith) (omega arith) (omega arith)

pub returns-then-n-lt10000 : goal.returns-then-n-lt10000
returns-then-n-lt10000 c = wide 9 2 _ (omega arith) (omega arith) (omega arith)

pub returns-then-n-lt100000 : goal.returns-then-n-lt100000
returns-then-n-lt100000 c = wide 9 3 _ (omega arith) (omega arith) (omega arith)

pub returns-then-n-lt1000000 : goal.returns-then-n-lt1000000
returns-then-n-lt1000000 c = wide 9 4 _ (omega arith) (omega arith) (omega arith)

pub returns-then-n-lt10000000 : goal.returns-then-n-lt10000000
returns-then-n-lt10000000 c = wide 9 5 _ (omega arith) (omega arith) (omega arith)

pub returns-then-n-lt100000000 : goal.returns-then-n-lt100000000
returns-then-n-lt100000000 c = wide 9 6 _ (omega arith) (omega arith) (omega arith)

pub returns-then-n-lt1000000000 : goal.returns-then-n-lt1000000000
returns-then-n-lt1000000000 c = wide 9 7 _ (omega arith) (omega arith) (omega arith)

pub returns : goal.returns
returns c = wide 9 8 _ (omega arith) (omega arith) (omega arith)
