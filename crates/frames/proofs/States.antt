-- Where a program stands behind a turn: inside its chunk and its buffer, with a turn less.
use Prim.Native.Nat.{ℕ, ◌+◌, ◌-◌, ◌≤◌, ◌<◌}
use mathlib.Core.Path.{◌≡◌, refl}
use mathlib.Core.List.{List}
use lib.ListN.{length, take, drop, length-take}
use native.Mathlib.Omega.{arith}
use mir.Syntax.{w64}
use mir.Val.{Fits}
use Rattle.frames.specs.declared.Outcome.{Outcome}
use Rattle.frames.specs.declared.State.{State}
use Rattle.frames.specs.Tasks.{to_read, Turns}
use Rattle.frames.specs.States.{begun, filled_of, Refills, another, Advances, refills, Keeps, same, stops}
use Rattle.frames.proofs.Tasks.{turn_inside}

-- ---- on what is left of a chunk

module _ (s : State) (chunk old : List ℕ) (o : Outcome) (new : List ℕ) (t : Turns s.crlf s.counted s.stream (take (s.got - s.next) (drop s.next chunk)) old o new) where
  pub turn_sum : s.next < s.got → Fits w64 s.got → Fits w64 (s.next + o.taken)
  turn_sum l f = record { fits = omega (arith, turn_inside s.crlf s.counted s.stream (take (s.got - s.next) (drop s.next chunk)) old o new t, length-take (s.got - s.next) (drop s.next chunk), f.fits) }

-- ---- another chunk, or the end

module _ (s : State) (most room : ℕ) where
  pub refill_chunk : (n : ℕ) (chunk : List ℕ) → n ≤ length chunk → length chunk ≡ most → Refills s most room (filled_of s n)
  refill_chunk n chunk l e = another n (omega (arith, l, e)) refl

-- ---- a turn

pub next_refills : (s : State) (chunk old : List ℕ) (r : State) (new : List ℕ) → s.got ≤ s.next → Refills (begun s) (length chunk) (length old) r → new ≡ old → Advances s chunk old r new
next_refills s chunk old r new l g e = refills l g e

-- ---- a task done

module _ (s r : State) (n : ℕ) where
  pub kept_task : to_read s.task ≤ n → Keeps s r → to_read r.task ≤ n
  kept_task l (same e) = rw e l
  kept_task l (stops e) = rw e (omega arith)

  pub kept_got : s.got ≤ n → Keeps s r → r.got ≤ n
  kept_got l (same e) = rw e l
  kept_got l (stops e) = rw e l

  pub kept_left : s.left < n → Keeps s r → r.left < n
  kept_left l (same e) = rw e l
  kept_left l (stops e) = rw e (omega arith)

pub ruleset keeping_laws = (kept_task, kept_got, kept_left)
