-- Fields and names: how many bytes of the line they take at least, and by how much they grow in print.
use Rattle.std.specs.Prelude.{Option, Some, None}
use Prim.Native.Nat.{ℕ, ◌+◌, ◌≤◌}
use mathlib.Core.Path.{◌≡◌, refl, sym, ap, ◌∙◌}
use mathlib.Core.List.{List}
use native.Mathlib.Omega.{arith}
use lib.ListN.{length, take, drop, length-append, length-take}
use lib.Seq.{take_all}
use Rattle.base.proofs.Tests.{by_if}
use Rattle.record.specs.Places.{absent, place}
use Rattle.record.specs.declared.Place.{Place}
use Rattle.parsers.specs.Parsers.{plain_at, host_at, tag_at}
use Rattle.parsers.specs.Steps.{byte_from, some_blanks_from, placed, plain_from, host_from, tag_from, on_some, on_read}
use Rattle.parsers.specs.declared.Text.{Text}
use Rattle.parsers.specs.declared.Text.TheVariants.{Fails, Absent, Given}
use Rattle.parsers.proofs.Texts.{TextIn, plain_in, host_in, tag_in}
use Rattle.rfc3164.specs.Names.{split_at, split_of, no_names, with_tag, only_field, host_and_tag}
use Rattle.rfc3164.specs.Rfc3164.{spaced_host, spaced_tag, behind_field, header_from}
use Rattle.rfc3164.specs.declared.Names.{Names}
use Rattle.rfc3164.proofs.Splits.{parts_within}
use Rattle.rfc3164.proofs.Lines.{by_header}
use Rattle.rfc5424.specs.Rfc5424.{blank_host, blank_plain, four_from}
use Rattle.rfc5424.specs.declared.Four.{Four}
use Rattle.message.specs.Message.{field_text, tag_text}
use Rattle.enough.proofs.Stamps.{PosFrom, byte_from_lem, some_from}
use Rattle.enough.proofs.Heads.{text_le, field_size, size_le}

-- a field whose text starts at `at` or after
abbrev FieldFrom : ℕ → Option (Place × ℕ) → Type 0
FieldFrom at None = Unit {0}
FieldFrom at (Some x) = at + x.0.len ≤ x.1

placed_from : (at least n : ℕ) → least ≤ at → (t : Text) → TextIn n t → FieldFrom least (placed at t)
placed_from at least n l Fails i = tt
placed_from at least n l (Absent m) i = omega arith
placed_from at least n l (Given k m) i = omega arith

-- whatever is read behind a step that goes on by a byte at least
behind : (read : List ℕ → Text) → ((s : List ℕ) → TextIn (length s) (read s)) → (s : List ℕ) (at : ℕ) (x : Option ℕ) → PosFrom (at + 1) x
    → FieldFrom (at + 1) (on_some x None (λ a. placed a (read (drop a s))))
behind read read-in s at None h = tt
behind read read-in s at (Some a) h = placed_from a (at + 1) (length (drop a s)) h (read (drop a s)) (read-in (drop a s))

module _ (s : List ℕ) (at : ℕ) where
  host_from_lem : FieldFrom (at + 1) (spaced_host s at)
  unfolding spaced_host host_from
  host_from_lem = behind host_at host_in s at (byte_from s at 32) (byte_from_lem s at 32)

  tag_from_lem : FieldFrom (at + 1) (spaced_tag s at)
  unfolding spaced_tag tag_from
  tag_from_lem = behind tag_at tag_in s at (byte_from s at 32) (byte_from_lem s at 32)

  blank_host_from : FieldFrom (at + 1) (blank_host s at)
  unfolding blank_host host_from
  blank_host_from = behind host_at host_in s at (some_blanks_from s at) (some_from s at)

  blank_plain_from : FieldFrom (at + 1) (blank_plain s at)
  unfolding blank_plain plain_from
  blank_plain_from = behind plain_at plain_in s at (some_blanks_from s at) (some_from s at)

-- ---- RFC 5424: host, app, process id and message id

abbrev FourFrom : ℕ → Option (Four × ℕ) → Type 0
FourFrom at None = Unit {0}
FourFrom at (Some x) = at + 4 + x.0.host.len + x.0.app.len + x.0.procid.len + x.0.msgid.len ≤ x.1

on_field_lem : (P : Option (Four × ℕ) → Type 0) (x : Option (Place × ℕ)) (r : Option (Four × ℕ)) (k : Place → ℕ → Option (Four × ℕ)) → P r → ((p : Place) (n : ℕ) → x ≡ Some (p, n) → P (k p n)) → P (on_read x r k)
on_field_lem P None r k a b = a
on_field_lem P (Some x) r k a b = b x.0 x.1 refl

field_is : (at : ℕ) {x : (Option (Place × ℕ))} {n : ℕ} {p : Place} → FieldFrom at x → x ≡ Some (p, n) → at + p.len ≤ n
field_is at h e = rw e at h

pub four_from_lem : (s : List ℕ) (at : ℕ) → FourFrom at (four_from s at)
unfolding four_from
four_from_lem s at =
    on_field_lem (FourFrom at) (blank_host s at) _ _ tt λ host a e1.
    on_field_lem (FourFrom at) (blank_plain s a) _ _ tt λ app b e2.
    on_field_lem (FourFrom at) (blank_plain s b) _ _ tt λ procid c e3.
    on_field_lem (FourFrom at) (blank_plain s c) _ _ tt λ msgid d e4.
    omega (arith, field_is (at + 1) (blank_host_from s at) e1, field_is (a + 1) (blank_plain_from s a) e2, field_is (b + 1) (blank_plain_from s b) e3, field_is (c + 1) (blank_plain_from s c) e4)

-- ---- RFC 3164: host and tag

-- app, `[`, pid and `]` fill the field
parts_fill : (s : List ℕ) (f : Place) (a p : ℕ) → Some (a, p) ≡ split_of s f → a + p + 2 ≤ f.len
unfolding split_of
parts_fill s f a p e =
    let t = take f.len (drop f.start s) in
    let whole : Some (a, p) ≡ split_of t (place 0 (length t)) = e ∙ ap split_at (sym (take_all (length t) t (omega arith))) in
    omega (arith, parts_within t (place 0 (length t)) (Some (a, p)) whole a p refl (omega arith), length-take f.len (drop f.start s))

abbrev NamesGrow : List ℕ → ℕ → Names → ℕ → Type 0
NamesGrow line at x next = at + length (field_text line x.host) + length (tag_text line x.app x.procid) ≤ next + 4

module _ (line : List ℕ) where
  tag_size : (app : Place) → length (tag_text line app absent) ≤ app.len + 2
  tag_size app =
      by_if (λ (t : List ℕ). length t ≤ app.len + 2) app.present _ _
      (λ q. simp length-append (rw q (omega (arith, text_le line app.start app.len))))
      (λ q. omega arith)

  parts_size : (x a y p : ℕ) → length (tag_text line (place x a) (place y p)) ≤ a + p + 4
  parts_size x a y p = simp length-append (omega (arith, text_le line x a, text_le line y p))

module _ (line s : List ℕ) where
  none_grow : (at next : ℕ) → at ≤ next → NamesGrow line at no_names next
  unfolding field_text
  none_grow at next h = omega arith

  -- a field that stands behind a space
  module _ (at next : ℕ) (f : Place) (h : at + 1 + f.len ≤ next) where
    only_grow : (g : Option (ℕ × ℕ)) → g ≡ split_of s f → NamesGrow line at (only_field f g) next
    unfolding field_text
    only_grow None e = omega (arith, field_size line f, size_le line f)
    only_grow (Some x) e = omega (arith, parts_fill s f x.0 x.1 e, parts_size line f.start x.0 (f.start + x.0 + 1) x.1)

    -- and a tag behind it and another
    tagged_grow : (last : ℕ) (tag : Place) → next + 1 + tag.len ≤ last → (g : Option (ℕ × ℕ)) → g ≡ split_of s tag → NamesGrow line at (with_tag f tag g) last
    tagged_grow last tag k None e = omega (arith, field_size line f, size_le line f, tag_size line tag)
    tagged_grow last tag k (Some x) e =
        omega (arith, field_size line f, size_le line f, parts_fill s tag x.0 x.1 e, parts_size line tag.start x.0 (tag.start + x.0 + 1) x.1)

    names_grow : (tag : Option (Place × ℕ)) → FieldFrom (next + 1) tag → NamesGrow line at (host_and_tag s f tag) (behind_field next tag)
    unfolding host_and_tag
    names_grow None k =
        by_if (λ x. NamesGrow line at x next) f.present _ _ (λ q. only_grow (split_of s f) refl) (λ q. none_grow at next (omega arith))
    names_grow (Some y) k =
        by_if (λ x. NamesGrow line at x y.1) y.0.present _ _ (λ q. tagged_grow y.1 y.0 k (split_of s y.0) refl) (λ q. none_grow at y.1 (omega arith))

  pub header_grows : (at : ℕ) → NamesGrow line at (header_from s at).names (header_from s at).next
  header_grows at =
      by_header s at (λ r. NamesGrow line at r.names r.next) (λ z. none_grow at at (omega arith)) λ host a z.
      names_grow at a host (field_is (at + 1) (host_from_lem s at) z) (spaced_tag s a) (tag_from_lem s a)

-- and reading goes on from there or after
onward : (at : ℕ) (f : Option (Place × ℕ)) → FieldFrom (at + 1) f → at ≤ behind_field at f
onward at None h = omega arith
onward at (Some x) h = omega arith

pub header_onward : (s : List ℕ) (at : ℕ) → at ≤ (header_from s at).next
header_onward s at =
    by_header s at (λ r. at ≤ r.next) (λ z. omega arith) λ host a z.
    omega (arith, field_is (at + 1) (host_from_lem s at) z, onward a (spaced_tag s a) (tag_from_lem s a))
