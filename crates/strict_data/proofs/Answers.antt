-- What the answers of the readers say of what the parser finds.
use Rattle.std.specs.Prelude as std
use Rattle.std.specs.Prelude.{Some, None}
use Prim.Native.Nat.{ℕ}
use mathlib.Core.Path.{◌≡◌, refl, sym, ap, ◌∙◌}
use mathlib.Core.Bool.{true, false}
use mathlib.Core.List.{List}
use mathlib.Core.Option.{Option, none, some}
use lib.ListN.{length}
use Rattle.base.proofs.Tests.{clash}
use Rattle.grammar.specs.Line.{Element}
use Rattle.grammar.specs.Parse.{Parsed}
use Rattle.grammar.specs.Parse.Parsed.{failed, found}
use Rattle.grammar.specs.Reading.{param_count}
use Rattle.strict_data.specs.Counts.{counts_of, tail_of}
use Rattle.strict_data.specs.Sizes.{size_of, block_of, params_in, item_of}
use Rattle.strict_data.specs.declared.Block.{Block}
use Rattle.strict_data.specs.declared.Item.{Item}
use Rattle.strict_data.specs.declared.Counts.{Counts}
use Rattle.strict_data.specs.declared.Tail.{Tail}
use Rattle.strict_data.specs.declared.Tail.TheVariants.{NoTail, NoMessage, IsMessage}

-- an answer g is what `answer` makes of nothing, or of something
told : {A B P : Type 0} (answer : Parsed A → B) (o : Parsed A) (g : B) → g ≡ answer o
    → (g ≡ answer failed → o ≡ failed → P) → ((a : A) (n : ℕ) → g ≡ answer (found a n) → o ≡ found a n → P) → P
told answer failed g e missing there = missing e refl
told answer (found a n) g e missing there = there a n e refl

-- ---- a size

pub record Finds {A : Type 0} (o : Parsed A) (n : ℕ) : Type 0 where
  pub value : A
  pub is : o ≡ found value n

module _ {A : Type 0} (o : Parsed A) (g : std.Option ℕ) (e : g ≡ size_of o) where
  pub finds : {n : ℕ} → g ≡ Some n → Finds o n
  finds {n} h = told size_of o g e (λ q _. let z : true ≡ false = cc in clash z) (λ a m q r. record { value = a; is = cc })

  pub misses : g ≡ None → o ≡ failed
  misses h = told size_of o g e (λ _ r. r) (λ a m q _. let z : true ≡ false = cc in clash z)

-- ---- a block

pub record FindsBlock {A : Type 0} (count : A → ℕ) (o : Parsed A) (n k : ℕ) : Type 0 where
  pub value : A
  pub is : o ≡ found value n
  pub counted : k ≡ count value

module _ {A : Type 0} (count : A → ℕ) (o : Parsed A) (g : std.Option Block) (e : g ≡ block_of count o) where
  pub finds_block : {n k : ℕ} → g ≡ Some (record { len = n; params = k }) → FindsBlock count o n k
  finds_block {n} {k} h = told (block_of count) o g e (λ q _. let z : true ≡ false = cc in clash z) (λ a m q r.
      let z : ◌≡◌ {A = Block} (record { len = n; params = k }) (record { len = m; params = count a }) = cc in
      record { value = a; is = r ∙ ap (found a) (sym (ap (λ (x : Block). x.len) z)); counted = ap (λ (x : Block). x.params) z })

  pub misses_block : g ≡ None → o ≡ failed
  misses_block h = told (block_of count) o g e (λ _ r. r) (λ a m q _. let z : true ≡ false = cc in clash z)

-- ---- an element

pub record FindsItem (o : Parsed Element) (n k d : ℕ) : Type 0 where
  pub value : Element
  pub is : o ≡ found value n
  pub counted : k ≡ params_in value
  pub named : d ≡ length value.id

module _ (o : Parsed Element) (g : std.Option Item) (e : g ≡ item_of o) where
  pub finds_item : {n k d : ℕ} → g ≡ Some (record { len = n; params = k; id = d }) → FindsItem o n k d
  finds_item {n} {k} {d} h = told item_of o g e (λ q _. let z : true ≡ false = cc in clash z) (λ a m q r.
      let z : ◌≡◌ {A = Item} (record { len = n; params = k; id = d }) (record { len = m; params = params_in a; id = length a.id }) = cc in
      record { value = a; is = r ∙ ap (found a) (sym (ap (λ (x : Item). x.len) z)); counted = ap (λ (x : Item). x.params) z; named = ap (λ (x : Item). x.id) z })

  pub misses_item : g ≡ None → o ≡ failed
  misses_item h = told item_of o g e (λ _ r. r) (λ a m q _. let z : true ≡ false = cc in clash z)

-- ---- the structured data

pub record FindsData (o : Parsed (List Element)) (m n k : ℕ) : Type 0 where
  pub value : List Element
  pub is : o ≡ found value m
  pub counted : n ≡ length value
  pub params_counted : k ≡ param_count value

module _ (o : Parsed (List Element)) (g : std.Option Counts) (e : g ≡ counts_of o) where
  pub finds_data : {m n k : ℕ} → g ≡ Some (record { len = m; elements = n; params = k }) → FindsData o m n k
  finds_data {m} {n} {k} h =
      told counts_of o g e (λ q _. let z : true ≡ false = cc in clash z) (λ es l q r.
      let z : ◌≡◌ {A = Counts} (record { len = m; elements = n; params = k }) (record { len = l; elements = length es; params = param_count es }) = cc in
      record { value = es; is = r ∙ ap (found es) (sym (ap (λ (x : Counts). x.len) z)); counted = ap (λ (x : Counts). x.elements) z; params_counted = ap (λ (x : Counts). x.params) z })

  pub misses_data : g ≡ None → o ≡ failed
  misses_data h = told counts_of o g e (λ _ r. r) (λ es l q _. let z : true ≡ false = cc in clash z)

-- ---- the message

pub record FindsTail (o : Parsed (Option (List ℕ))) (m : Option (List ℕ)) : Type 0 where
  pub bytes : ℕ
  pub is : o ≡ found m bytes

pub record FindsMessage (o : Parsed (Option (List ℕ))) (n : ℕ) : Type 0 where
  pub value : List ℕ
  pub tail : FindsTail o (some value)
  pub counted : n ≡ length value

pub finds_message : (o : Parsed (Option (List ℕ))) (g : Tail) (n : ℕ) → g ≡ tail_of o → g ≡ IsMessage n → FindsMessage o n
finds_message failed g n e h = let z : true ≡ false = cc in clash z
finds_message (found none l) g n e h = let z : true ≡ false = cc in clash z
finds_message (found (some m) l) g n e h = record { value = m; tail = record { bytes = l; is = refl }; counted = cc }

pub finds_none : (o : Parsed (Option (List ℕ))) (g : Tail) → g ≡ tail_of o → g ≡ NoMessage → FindsTail o none
finds_none failed g e h = let z : true ≡ false = cc in clash z
finds_none (found none l) g e h = record { bytes = l; is = refl }
finds_none (found (some m) l) g e h = let z : true ≡ false = cc in clash z

pub misses_tail : (o : Parsed (Option (List ℕ))) (g : Tail) → g ≡ tail_of o → g ≡ NoTail → o ≡ failed
misses_tail failed g e h = refl
misses_tail (found none l) g e h = let z : true ≡ false = cc in clash z
misses_tail (found (some m) l) g e h = let z : true ≡ false = cc in clash z
