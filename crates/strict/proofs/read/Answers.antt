use Rattle.std.proofs.Common.{◌≡◌, sym, ◌∙◌, List, ℕ, length, Result}
use Rattle.std.proofs.lemmas.Result.{err_from_is_err_and}
use Rattle.record.specs.Params.{rows}
use Rattle.record.specs.declared.Param.{Param}
use Rattle.record.specs.declared.Refusal.{Refusal}
use Rattle.record.proofs.Params.{rows_length}
use Rattle.strict.specs.Scan.{judged}
use Rattle.strict.specs.declared.Scan.{Scan}
use Rattle.strict.proofs.Readings.{read_refused, fill_there, read_done}
use Rattle.strict.proofs.read.Goals as goal

-- what is judged of the tables, of their rows
judged_rows : (line : List ℕ) (e : List (List ℕ)) (p : List Param) (j : Result Scan Refusal) → j ≡ judged line (length e) (length p) → j ≡ judged line (length e) (length (rows p))
judged_rows line e p j q = rw rows_length q

pub returns-in_err-scan : goal.returns-in_err-scan
returns-in_err-scan c =
    let p = err_from_is_err_and c.from_residual.result c.from_residual.ensures.1 in
    rw (p.1, p.2) (read_refused _ _ _ _ (judged_rows c.args.line.now c.args.elements.now c.args.params.now _ (sym c.in_err-scan.was ∙ c.judge.ensures)))

pub fill_data-requires : goal.fill_data-requires
fill_data-requires c = fill_there _ _ _ _ (judged_rows c.args.line.now c.args.elements.now c.args.params.now _ (sym c.in_ok-scan.was ∙ c.judge.ensures))

pub returns : goal.returns
returns c =
    rw c.reading_of.ensures
    (read_done _ _ _ _ (judged_rows c.args.line.now c.args.elements.now c.args.params.now _ (sym c.in_ok-scan.was ∙ c.judge.ensures)) _ _ c.fill_data.ensures.elements_after c.fill_data.ensures.params_after)
