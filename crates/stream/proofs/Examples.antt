-- Worked examples, computed from the definitions: every number of the machine from both sides.
use Rattle.std.specs.Prelude.{Ok, Err}
use Prim.Native.Nat.{ℕ}
use mathlib.Core.Path.{◌≡◌, refl}
use mathlib.Core.List.{List, [], ◌∷◌, ◌++◌, map}
use lib.ListN.{replicate}
use Rattle.base.specs.Bytes.{bytes}
use Rattle.record.specs.declared.Refusal.TheVariants.{BadSetting, OutputShort, BadCount, FrameTooLong}
use Rattle.stream.specs.declared.State.{State}
use Rattle.stream.specs.declared.State.TheVariants.{Count, Content, Line, Ended}
use Rattle.stream.specs.declared.Event.TheVariants as event
use Rattle.stream.specs.declared.FeedAnswer.{FeedAnswer}
use Rattle.stream.specs.Machine.{Says, silent, frame, long, bad, start_of, unfinished, more, keep, ending, step, Whole, whole, stops, up_to}
use Rattle.stream.specs.Feeds.{kept, held, event_of}
use Rattle.stream.specs.Cuts.{seen, numbers_seen}
use Rattle.stream.specs.Numbers.{numbers_of, state_of, start_answer_of, feed_answer, finish_answer_of}

abbrev ends : List Says → State → List ℕ → Whole
ends h s c = record { heard = h; next = s; content = c }

-- a counted stream, and lines, from their start
abbrev counted : List ℕ → Whole
counted = whole (Count 0) []

abbrev lines : List ℕ → Whole
lines = whole (Line 0) []

-- ---- the kind

kinds : map start_of (0 ∷ 1 ∷ 2 ∷ []) ≡ Ok (Count 0) ∷ Ok (Line 0) ∷ Err BadSetting ∷ []
unfolding start_of
kinds = refl

-- ---- counted frames

-- three frames, of which the second has digits and a space, and the third a CR and an LF; then one that is cut short
frames : counted (bytes "5 hello3 1 x2 " ++ 13 ∷ 10 ∷ bytes "5 ab") ≡ ends (frame (bytes "hello") ∷ frame (bytes "1 x") ∷ frame (13 ∷ 10 ∷ []) ∷ []) (Content 3 2) (bytes "ab")
unfolding whole step more keep ending
frames = refl

-- counts of one to six digits, of the first and the last
counts : map (λ (s : List ℕ). counted s)
    (bytes "1 " ∷ bytes "9 " ∷ bytes "10 " ∷ bytes "99 " ∷ bytes "100 " ∷ bytes "1000 " ∷ bytes "10000 " ∷ bytes "99999 " ∷ bytes "100000 " ∷ bytes "999999 " ∷ [])
    ≡ map (λ (n : ℕ). ends [] (Content n 0) []) (1 ∷ 9 ∷ 10 ∷ 99 ∷ 100 ∷ 1000 ∷ 10000 ∷ 99999 ∷ 100000 ∷ 999999 ∷ [])
unfolding whole step more keep ending
counts = refl

-- every digit in its place, and a count that is cut
digits : (counted (bytes "123456 ") ≡ ends [] (Content 123456 0) []) × (counted (bytes "7890") ≡ ends [] (Count 7890) [])
unfolding whole step more keep ending
digits = (refl, refl)

-- no digit; a leading zero; `/` and `:`, which stand before and behind the digits; a seventh digit; another byte than a space: 31 and 33, a tab, LF. Then
-- every further byte gives 11 again, and the stream has ended
bad_counts : map (λ (s : List ℕ). counted s)
    (bytes " " ∷ bytes "0" ∷ bytes "/" ∷ bytes ":" ∷ bytes "1/" ∷ bytes "1:" ∷ bytes "1000000" ∷ bytes "9999990" ∷ (49 ∷ 31 ∷ []) ∷ bytes "1!" ∷ (49 ∷ 9 ∷ []) ∷ (49 ∷ 10 ∷ []) ∷ bytes "10x" ∷ [])
    ≡ map (λ (n : ℕ). ends (bad ∷ []) Ended []) (replicate 13 0)
unfolding whole step more keep ending
bad_counts = refl

ended : counted (bytes "2 ab01 a" ++ 10 ∷ []) ≡ ends (frame (bytes "ab") ∷ bad ∷ bad ∷ bad ∷ bad ∷ bad ∷ []) Ended []
unfolding whole step more keep ending
ended = refl

-- ---- lines

-- an empty line is an empty frame, a CR is of the frame, so are digits, 9 and 11; the last line has no LF and is not handed out
four_lines : lines (97 ∷ 13 ∷ 10 ∷ 10 ∷ 9 ∷ 11 ∷ 10 ∷ bytes "5 a" ++ 10 ∷ bytes "bc") ≡ ends (frame (97 ∷ 13 ∷ []) ∷ frame [] ∷ frame (9 ∷ 11 ∷ []) ∷ frame (bytes "5 a") ∷ []) (Line 2) (bytes "bc")
unfolding whole step more keep ending
four_lines = refl

-- ---- 8,192 bytes

abbrev content : ℕ → List ℕ
content n = replicate n 120

-- of a frame of 8,192 bytes all are handed out, of one of 8,193 the first 8,192 are there; each is told at its last byte, or LF, and the next begins anew
last_bytes : map (λ (n : ℕ). (step (Content 1 n) (content (kept n)) 120).says) (8191 ∷ 8192 ∷ 8193 ∷ []) ≡ frame (content 8192) ∷ long (content 8192) ∷ long (content 8192) ∷ []
unfolding step more keep ending
last_bytes = refl

last_lfs : map (λ (n : ℕ). (step (Line n) (content (kept n)) 10).says) (8191 ∷ 8192 ∷ 8193 ∷ []) ≡ frame (content 8191) ∷ frame (content 8192) ∷ long (content 8192) ∷ []
unfolding step more keep ending
last_lfs = refl

-- of content that is too long nothing is told before its end, and the bytes past the first 8,192 are not held
passed_over : (step (Line 8192) (content 8192) 121 ≡ record { next = Line 8193; content = content 8192; says = silent })
    × (step (Content 2 8192) (content 8192) 121 ≡ record { next = Content 1 8193; content = content 8192; says = silent })
    × (step (Line 8191) (content 8191) 121 ≡ record { next = Line 8192; content = content 8191 ++ 121 ∷ []; says = silent })
unfolding step more keep ending
passed_over = (refl, refl, refl)

-- a frame behind one that was passed over
behind : (whole (Content 1 8192) (content 8192) (bytes "y1 z") ≡ ends (long (content 8192) ∷ frame (bytes "z") ∷ []) (Count 0) [])
    × (whole (Line 8193) (content 8192) (10 ∷ 122 ∷ 10 ∷ []) ≡ ends (long (content 8192) ∷ frame (bytes "z") ∷ []) (Line 0) [])
unfolding whole step more keep ending
behind = (refl, refl)

-- ---- the end of a stream

-- content bytes are counted to 4,294,967,295, and a frame that goes on past them is passed over all the same
top : map (λ (n : ℕ). (step (Line n) [] 120).next) (4294967293 ∷ 4294967294 ∷ 4294967295 ∷ []) ≡ Line 4294967294 ∷ Line 4294967295 ∷ Line 4294967295 ∷ []
unfolding step more keep ending
top = refl

left_over : map unfinished (Count 12 ∷ Content 3 2 ∷ Content 1 8193 ∷ Line 0 ∷ Line 8192 ∷ Line 4294967295 ∷ Ended ∷ []) ≡ 0 ∷ 2 ∷ 8193 ∷ 0 ∷ 8192 ∷ 4294967295 ∷ 0 ∷ []
left_over = refl

-- ---- a call

-- it stops where a frame is complete, or after a report
stopped : map (λ (s : List ℕ). up_to (Count 0) [] s) (bytes "2 ab3 c" ∷ bytes "12" ∷ bytes "1x2" ∷ [])
    ≡ stops (Count 0) [] 4 (frame (bytes "ab")) ∷ stops (Count 12) [] 2 silent ∷ stops Ended [] 2 bad ∷ []
unfolding up_to step more keep ending
stopped = refl

stopped_lines : map (λ (s : List ℕ). up_to (Line 1) (bytes "a") s) ((98 ∷ 10 ∷ 99 ∷ []) ∷ bytes "bc" ∷ []) ≡ stops (Line 0) [] 2 (frame (bytes "ab")) ∷ stops (Line 3) (bytes "abc") 2 silent ∷ []
unfolding up_to step more keep ending
stopped_lines = refl

stopped_long : up_to (Content 1 8192) (content 8192) (bytes "yz") ≡ stops (Count 0) [] 1 (long (content 8192))
unfolding up_to step more keep ending
stopped_long = refl

-- after a bad count each byte gives 11; no bytes tell nothing
stopped_ended : map (λ (s : List ℕ). up_to Ended [] s) (bytes "ab" ∷ [] ∷ []) ≡ stops Ended [] 1 bad ∷ stops Ended [] 0 silent ∷ []
unfolding up_to step more keep ending
stopped_ended = refl

-- what a caller is told, and what it sees in the buffer
events : map event_of (silent ∷ frame (bytes "abc") ∷ frame [] ∷ long [] ∷ bad ∷ []) ≡ event.More ∷ event.Frame 3 ∷ event.Frame 0 ∷ event.Refused FrameTooLong ∷ event.Refused BadCount ∷ []
events = refl

sights : (seen (event.Frame 2) (bytes "abc") ≡ frame (bytes "ab") ∷ []) × (seen (event.Refused BadCount) (bytes "abc") ≡ bad ∷ []) × (seen (event.Refused OutputShort) (bytes "abc") ≡ [])
    × (seen (event.Refused FrameTooLong) (content 8193) ≡ long (content 8192) ∷ []) × (seen event.More (bytes "abc") ≡ [])
sights = (refl, refl, refl, refl, refl)

-- of content that the buffer holds its front is meant, up to 8,192 bytes
holding : map (λ (s : State). held s (content 8193)) (Count 3 ∷ Line 2 ∷ Content 1 8192 ∷ Line 8193 ∷ Ended ∷ []) ≡ [] ∷ content 2 ∷ content 8192 ∷ content 8192 ∷ [] ∷ []
holding = refl

-- ---- in numbers

numbers : map numbers_of (Count 12 ∷ Content 3 2 ∷ Line 4 ∷ Ended ∷ [])
    ≡ record { stage = 1; left = 12; came = 0 } ∷ record { stage = 2; left = 3; came = 2 } ∷ record { stage = 3; left = 0; came = 4 } ∷ record { stage = 4; left = 0; came = 0 } ∷ []
numbers = refl

-- a state of each stage; 0 and 5 are none
states : map (λ (n : ℕ). state_of (record { stage = n; left = 7; came = 9 })) (0 ∷ 1 ∷ 2 ∷ 3 ∷ 4 ∷ 5 ∷ [])
    ≡ Err BadSetting ∷ Ok (Count 7) ∷ Ok (Content 7 9) ∷ Ok (Line 9) ∷ Ok Ended ∷ Err BadSetting ∷ []
states = refl

starts : map start_answer_of (Ok (Line 0) ∷ Err BadSetting ∷ []) ≡ record { number = 0; state = record { stage = 3; left = 0; came = 0 } } ∷ record { number = 2; state = record { stage = 0; left = 0; came = 0 } } ∷ []
starts = refl

abbrev fed : ℕ → ℕ → ℕ → FeedAnswer
fed number mark len = record { number = number; frame = mark; taken = 5; len = len; state = numbers_of Ended }

-- a frame is told by its mark, an empty one too, and never by a number
answers : map (feed_answer 5 (numbers_of Ended)) (event.More ∷ event.Frame 3 ∷ event.Frame 0 ∷ event.Refused FrameTooLong ∷ event.Refused BadCount ∷ event.Refused OutputShort ∷ event.Refused BadSetting ∷ [])
    ≡ fed 0 0 0 ∷ fed 0 1 3 ∷ fed 0 1 0 ∷ fed 12 0 0 ∷ fed 11 0 0 ∷ fed 8 0 0 ∷ fed 2 0 0 ∷ []
answers = refl

-- what is seen of them: 10 and 13 are no number of a stream
numbers_sights : map (λ (a : FeedAnswer). numbers_seen a (bytes "abc")) (fed 0 0 2 ∷ fed 0 1 2 ∷ fed 11 0 0 ∷ fed 8 0 0 ∷ fed 10 0 0 ∷ fed 13 0 0 ∷ [])
    ≡ [] ∷ (frame (bytes "ab") ∷ []) ∷ (bad ∷ []) ∷ [] ∷ [] ∷ [] ∷ []
numbers_sights = refl

numbers_long : numbers_seen (fed 12 0 0) (content 8193) ≡ long (content 8192) ∷ []
numbers_long = refl

finishes : map finish_answer_of (Ok (Line 4294967295) ∷ Err BadSetting ∷ []) ≡ record { number = 0; unfinished = 4294967295 } ∷ record { number = 2; unfinished = 0 } ∷ []
finishes = refl
