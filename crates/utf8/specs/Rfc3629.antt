-- UTF-8 as RFC 3629 section 4 has it, production by production: a relation, with no reader in it.
use Rattle.std.specs.Prelude.{ℕ, ◌≡◌, Bool, true, List, [], ◌∷◌, ◌++◌}
use Rattle.base.specs.Choose.{within}

-- UTF8-tail = %x80-BF
abbrev pub is_tail : ℕ → Bool
is_tail b = within 0x80 0xBF b

-- UTF8-char = UTF8-1 / UTF8-2 / UTF8-3 / UTF8-4
pub data Utf8Char : List ℕ → Type 0 where
  utf8_1 : {a : ℕ} → within 0x00 0x7F a ≡ true → Utf8Char (a ∷ [])
  utf8_2 : {a b : ℕ} → within 0xC2 0xDF a ≡ true → is_tail b ≡ true → Utf8Char (a ∷ b ∷ [])
  utf8_3_E0 : {b c : ℕ} → within 0xA0 0xBF b ≡ true → is_tail c ≡ true → Utf8Char (0xE0 ∷ b ∷ c ∷ [])
  utf8_3_E1 : {a b c : ℕ} → within 0xE1 0xEC a ≡ true → is_tail b ≡ true → is_tail c ≡ true → Utf8Char (a ∷ b ∷ c ∷ [])
  utf8_3_ED : {b c : ℕ} → within 0x80 0x9F b ≡ true → is_tail c ≡ true → Utf8Char (0xED ∷ b ∷ c ∷ [])
  utf8_3_EE : {a b c : ℕ} → within 0xEE 0xEF a ≡ true → is_tail b ≡ true → is_tail c ≡ true → Utf8Char (a ∷ b ∷ c ∷ [])
  utf8_4_F0 : {b c d : ℕ} → within 0x90 0xBF b ≡ true → is_tail c ≡ true → is_tail d ≡ true → Utf8Char (0xF0 ∷ b ∷ c ∷ d ∷ [])
  utf8_4_F1 : {a b c d : ℕ} → within 0xF1 0xF3 a ≡ true → is_tail b ≡ true → is_tail c ≡ true → is_tail d ≡ true → Utf8Char (a ∷ b ∷ c ∷ d ∷ [])
  utf8_4_F4 : {b c d : ℕ} → within 0x80 0x8F b ≡ true → is_tail c ≡ true → is_tail d ≡ true → Utf8Char (0xF4 ∷ b ∷ c ∷ d ∷ [])

-- each is one character
abbrev pub Characters : List (List ℕ) → Type 0
Characters [] = Unit {0}
Characters (c ∷ cs) = Utf8Char c × Characters cs

-- their bytes, one character after the other
abbrev pub octets : List (List ℕ) → List ℕ
octets [] = []
octets (c ∷ cs) = c ++ octets cs

-- UTF8-octets = *( UTF8-char )
pub record Utf8 (s : List ℕ) : Type 0 where
  pub characters : List (List ℕ)
  pub each : Characters characters
  pub text : s ≡ octets characters
