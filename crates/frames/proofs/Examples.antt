-- Worked examples, computed from the definitions.
use Rattle.std.specs.Prelude.{Ok}
use mathlib.Core.Path.{◌≡◌, refl}
use mathlib.Core.Bool.{true, false}
use mathlib.Core.List.{[], ◌∷◌, map}
use Rattle.record.specs.declared.Refusal.TheVariants.{BadSetting, OutputShort, BadCount, FrameTooLong}
use Rattle.stream.specs.declared.State.TheVariants.{Count, Content, Line, Ended}
use Rattle.stream.specs.declared.Event.TheVariants as event
use Rattle.stream.specs.Machine.{start_of}
use Rattle.frames.specs.declared.Task.TheVariants.{More, Read, Refuse, End, Cut}
use Rattle.frames.specs.Tasks.{start_state, kept_len, task_of, last_task}

-- counted streams are the splitter's kind 0, lines its kind 1
kinds : (Ok (start_state true) ≡ start_of 0) × (Ok (start_state false) ≡ start_of 1)
unfolding start_of
kinds = (refl, refl)

-- nothing, CR, two CRs, `a` CR, CR `a`, and what stands beside CR (12, 14; LF is 10)
kept : map (kept_len true) ([] ∷ (13 ∷ []) ∷ (13 ∷ 13 ∷ []) ∷ (97 ∷ 13 ∷ []) ∷ (13 ∷ 97 ∷ []) ∷ (97 ∷ 12 ∷ []) ∷ (97 ∷ 14 ∷ []) ∷ [])
    ≡ 0 ∷ 0 ∷ 1 ∷ 1 ∷ 2 ∷ 2 ∷ 2 ∷ []
kept = refl

-- where lines end at LF, all of it
all_kept : map (kept_len false) ([] ∷ (13 ∷ []) ∷ (97 ∷ 13 ∷ []) ∷ []) ≡ 0 ∷ 1 ∷ 2 ∷ []
all_kept = refl

-- nothing told; a frame, of which the buffer has more than its own bytes; the refusals, of lines and of counted frames
tasks : map (task_of true false (97 ∷ 13 ∷ 98 ∷ [])) (event.More ∷ event.Frame 0 ∷ event.Frame 2 ∷ event.Frame 3 ∷ []) ≡ More ∷ Read 0 ∷ Read 1 ∷ Read 3 ∷ []
tasks = refl

refused : (map (task_of false false []) (event.Refused FrameTooLong ∷ event.Refused BadCount ∷ event.Refused OutputShort ∷ event.Refused BadSetting ∷ [])
    ≡ Refuse 1 ∷ End 11 ∷ End 8 ∷ End 2 ∷ [])
    × (map (task_of false true []) (event.Refused FrameTooLong ∷ event.Refused BadCount ∷ event.Refused OutputShort ∷ [])
    ≡ Refuse 12 ∷ End 11 ∷ End 8 ∷ [])
refused = (refl, refl)

-- the last line: empty, of one byte, of 8,192 and of one more, and where the buffer is shorter
last_lines : (map (λ n. last_task (Line n) 8192) (0 ∷ 1 ∷ 8192 ∷ 8193 ∷ []) ≡ More ∷ Read 1 ∷ Read 8192 ∷ Refuse 1 ∷ [])
    × (map (λ n. last_task (Line n) 8193) (8192 ∷ 8193 ∷ []) ≡ Read 8192 ∷ Refuse 1 ∷ [])
    × (map (λ n. last_task (Line n) 2) (2 ∷ 3 ∷ []) ≡ Read 2 ∷ Refuse 1 ∷ [])
last_lines = (refl, refl, refl)

-- the end of a counted stream: between frames; behind a digit; behind the space; in the content; behind a bad count, which was told
last_frames : map (λ s. last_task s 8192) (Count 0 ∷ Count 1 ∷ Content 5 0 ∷ Content 1 4 ∷ Ended ∷ []) ≡ More ∷ Cut 0 ∷ Cut 0 ∷ Cut 4 ∷ More ∷ []
last_frames = refl
