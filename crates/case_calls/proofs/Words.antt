-- The number of eight bytes, as the library reads them.
use Rattle.std.proofs.Common.{◌≡◌, ℕ, ◌≤◌, ◌++◌, List, length, take, replicate, sym, ap, ◌∙◌, arith, w64}
use Rattle.std.proofs.lemmas.List.{take_at, length-append, length-replicate}
use Rattle.std.specs.Int.{from_le_bytes}
use Rattle.layout.specs.Layout.{record_size}
use Rattle.layout.specs.Incoming.{number, word_at}
use Rattle.layout.proofs.Numbers.{word_held}

-- They are the first word of a record with zeros behind them, of which there is a law.
pub eight_read : (x : List ℕ) → length x ≡ 8 → number x ≡ from_le_bytes w64 x
unfolding word_at
eight_read x h =
    let s = x ++ replicate record_size 0 in
    let e : x ≡ take 8 s = sym (take_at x (replicate record_size 0) 8 h) in
    let l : record_size ≤ length s = simp (length-append, length-replicate) (omega arith) in
    ap number e ∙ sym (word_held s 0 x l (omega arith) e)
