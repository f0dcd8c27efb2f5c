-- The four services side by side: what a call is given, what it leaves, and the contract between the two. Each contract is the one that its function ensures.
use Rattle.std.specs.Prelude.{ℕ, List, drop, ℤ, Result as StdResult}
use Rattle.record.specs.Answers.{answer_of, strict_answer_of, output_answer_of}
use Rattle.record.specs.declared.Record.{Record}
use Rattle.record.specs.declared.Reading.{Reading}
use Rattle.record.specs.declared.StrictReading.{StrictReading}
use Rattle.record.specs.declared.Answer.{Answer}
use Rattle.record.specs.declared.StrictAnswer.{StrictAnswer}
use Rattle.record.specs.declared.OutputAnswer.{OutputAnswer}
use Rattle.loose.specs.Loose.{Reads}
use Rattle.grammar.specs.Reading.{StrictReads}
use Rattle.message.specs.Prints.{Prints}
use Rattle.lookup.specs.Lookup.{Looks}
use Rattle.record.specs.declared.Refusal.{Refusal}

pub data Service : Type 0 where
  loose : Service
  strict : Service
  print : Service
  lookup : Service

-- the entries of a lent table, each a row of numbers
abbrev pub Elements : Type 0
Elements = List (List ℕ)

abbrev pub Params : Type 0
Params = List (List ℕ)

-- ---- what a call is given

pub record LooseGiven : Type 0 where
  pub line : List ℕ
  pub variant : ℕ
  pub year : ℕ
  pub offset : ℤ
  pub elements : Elements
  pub params : Params

pub record StrictGiven : Type 0 where
  pub line : List ℕ
  pub elements : Elements
  pub params : Params

-- line, record, counts and tables, and the output
pub record PrintGiven : Type 0 where
  pub line : List ℕ
  pub reading : Record
  pub element_count : ℕ
  pub param_count : ℕ
  pub elements : Elements
  pub params : Params
  pub output : List ℕ

pub record LookupGiven : Type 0 where
  pub printing : PrintGiven
  pub id : List ℕ
  pub name : List ℕ
  pub kind : ℕ

abbrev pub Given : Service → Type 0
Given Service.loose = LooseGiven
Given Service.strict = StrictGiven
Given Service.print = PrintGiven
Given Service.lookup = LookupGiven

-- ---- what it leaves: an answer, which holds the record and the counts or the length, and what it was lent as it is then

pub record Tables (Answer : Type 0) : Type 0 where
  pub answer : Answer
  pub elements : Elements
  pub params : Params

pub record Output : Type 0 where
  pub answer : StdResult ℕ Refusal
  pub output : List ℕ

abbrev pub Result : Service → Type 0
Result Service.loose = Tables (StdResult Reading Refusal)
Result Service.strict = Tables (StdResult StrictReading Refusal)
Result Service.print = Output
Result Service.lookup = Output

-- ---- the answer in numbers: the number of RULES Numbers, 0 where the call is done, and the values

abbrev pub Values : Service → Type 0
Values Service.loose = Answer
Values Service.strict = StrictAnswer
Values Service.print = OutputAnswer
Values Service.lookup = OutputAnswer

abbrev pub values : (s : Service) → Result s → Values s
values Service.loose x = answer_of x.answer
values Service.strict x = strict_answer_of x.answer
values Service.print x = output_answer_of x.answer
values Service.lookup x = output_answer_of x.answer

abbrev pub number : (s : Service) → Result s → ℕ
number Service.loose x = (values Service.loose x).number
number Service.strict x = (values Service.strict x).number
number Service.print x = (values Service.print x).number
number Service.lookup x = (values Service.lookup x).number

-- ---- the contracts

abbrev pub Contract : (s : Service) → Given s → Result s → Type 0
Contract Service.loose i x = Reads i.line i.variant i.year i.offset i.elements i.params x.answer x.elements x.params
Contract Service.strict i x = StrictReads i.line i.elements i.params x.answer x.elements x.params
Contract Service.print i x =
    Prints i.line i.reading i.element_count i.param_count i.elements i.params i.output x.answer x.output
Contract Service.lookup i x =
    let p = i.printing in
    Looks p.line p.reading p.element_count p.param_count p.elements p.params i.id i.name i.kind p.output x.answer x.output

-- ---- what was lent, before and after

pub data Lent : Type 0 where
  tables : Elements → Params → Lent
  output : List ℕ → Lent

abbrev pub before : (s : Service) → Given s → Lent
before Service.loose i = Lent.tables i.elements i.params
before Service.strict i = Lent.tables i.elements i.params
before Service.print i = Lent.output i.output
before Service.lookup i = Lent.output i.printing.output

abbrev pub after : (s : Service) → Result s → Lent
after Service.loose x = Lent.tables x.elements x.params
after Service.strict x = Lent.tables x.elements x.params
after Service.print x = Lent.output x.output
after Service.lookup x = Lent.output x.output

-- ---- and what of it an answer does not count: the entries past the counts, the bytes past the length

-- without the first `e` and `p` entries of the tables, or the first `n` bytes of the output
abbrev pub past : (e p n : ℕ) → Lent → Lent
past e p n (Lent.tables elements params) = Lent.tables (drop e elements) (drop p params)
past e p n (Lent.output out) = Lent.output (drop n out)

abbrev pub rest : (s : Service) → Result s → Lent → Lent
rest Service.loose x = past (values Service.loose x).elements (values Service.loose x).params 0
rest Service.strict x = past (values Service.strict x).elements (values Service.strict x).params 0
rest Service.print x = past 0 0 (values Service.print x).len
rest Service.lookup x = past 0 0 (values Service.lookup x).len
