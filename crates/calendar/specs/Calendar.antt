-- The Gregorian calendar, from the year 0 on: dates, clocks and days.
use Rattle.std.specs.Prelude.{ℕ, zero, suc, ◌+◌, ◌-◌, ◌%◌, List, [], ◌∷◌, Bool, ◌&&◌, ◌||◌, not, leb, ltb, eqb, ℤ, nat_abs, get_or, if◌then◌else◌}
use Rattle.base.specs.Choose.{within}
use Rattle.calendar.specs.declared.DateTime.{DateTime}

-- the last year of the calendar
abbrev pub last_year : ℕ
last_year = 9999

-- every fourth year, of the hundredth ones only every fourth
unfoldable pub leap : ℕ → Bool
leap y = eqb (y % 4) 0 && (not (eqb (y % 100) 0) || eqb (y % 400) 0)

-- two rows of twelve month lengths, common and leap
abbrev pub months : List (List ℕ)
months =
    (31 ∷ 28 ∷ 31 ∷ 30 ∷ 31 ∷ 30 ∷ 31 ∷ 31 ∷ 30 ∷ 31 ∷ 30 ∷ 31 ∷ [])
    ∷ (31 ∷ 29 ∷ 31 ∷ 30 ∷ 31 ∷ 30 ∷ 31 ∷ 31 ∷ 30 ∷ 31 ∷ 30 ∷ 31 ∷ [])
    ∷ []

abbrev pub row : Bool → ℕ
row l = if l then 1 else 0

-- the days of month `m`, of 1 to 12
unfoldable pub month_days : ℕ → ℕ → ℕ
month_days y m = get_or (get_or months (row (leap y)) []) (m - 1) 0

unfoldable pub valid_date : ℕ → ℕ → ℕ → Bool
valid_date y m d = within 1 12 m && within 1 (month_days y m) d

-- no second 60
unfoldable pub valid_time : ℕ → ℕ → ℕ → Bool
valid_time h m s = ltb h 24 && ltb m 60 && ltb s 60

-- an offset is less than a day, in minutes
abbrev pub offset_limit : ℕ
offset_limit = 1439

abbrev pub valid_offset : ℤ → Bool
valid_offset offset = leb (nat_abs offset) offset_limit

-- a date of the years 0 to 9999, and a clock
unfoldable pub valid : DateTime → Bool
valid t = leb t.year last_year && valid_date t.year t.month t.day && valid_time t.hour t.minute t.second

unfoldable pub year_days : ℕ → ℕ
year_days y = if leap y then 366 else 365

-- the days of the years before `y`
unfoldable pub days_before_year : ℕ → ℕ
days_before_year zero = 0
days_before_year (suc y) = days_before_year y + year_days y

-- the days of the first `k` months of `y`
unfoldable pub days_of_months : ℕ → ℕ → ℕ
days_of_months y zero = 0
days_of_months y (suc k) = days_of_months y k + month_days y (suc k)

-- days since 0000-01-01
unfoldable pub day_number : ℕ → ℕ → ℕ → ℕ
day_number y m d = days_before_year y + days_of_months y (m - 1) + (d - 1)
