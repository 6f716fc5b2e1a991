-- The pieces of a date of a header field, as `Sun, 29 Nov 2026 08:11:24 GMT`.
use Rattle.std.proofs.Common.{◌≡◌, ℕ, zero, suc, ◌-◌, ◌<◌, List, [], ◌∷◌, refl, subst, arith}
use Rattle.std.specs.Prelude.{slice_range}
use Rattle.httpdate.specs.Text.{day_name, month_name, two_digits, four_digits, time_of_day}
use Rattle.httpdate.specs.declared.date.HttpDate.{HttpDate}
use Rattle.httpdate.specs.Date.{date_text}

-- a text of three bytes
record IsThree (text : List ℕ) : Type 0 where
  a : ℕ
  b : ℕ
  c : ℕ
  is : text ≡ a ∷ b ∷ c ∷ []

day_is_three : (n : ℕ) → n < 7 → IsThree (day_name (suc n))
day_is_three zero small = record { a = 77; b = 111; c = 110; is = refl }
day_is_three (suc zero) small = record { a = 84; b = 117; c = 101; is = refl }
day_is_three (suc (suc zero)) small = record { a = 87; b = 101; c = 100; is = refl }
day_is_three (suc (suc (suc zero))) small = record { a = 84; b = 104; c = 117; is = refl }
day_is_three (suc (suc (suc (suc zero)))) small = record { a = 70; b = 114; c = 105; is = refl }
day_is_three (suc (suc (suc (suc (suc zero))))) small = record { a = 83; b = 97; c = 116; is = refl }
day_is_three (suc (suc (suc (suc (suc (suc zero)))))) small = record { a = 83; b = 117; c = 110; is = refl }
day_is_three (suc (suc (suc (suc (suc (suc (suc n))))))) small = absurd (omega (arith, small))

month_is_three : (n : ℕ) → n < 12 → IsThree (month_name (suc n))
month_is_three zero small = record { a = 74; b = 97; c = 110; is = refl }
month_is_three (suc zero) small = record { a = 70; b = 101; c = 98; is = refl }
month_is_three (suc (suc zero)) small = record { a = 77; b = 97; c = 114; is = refl }
month_is_three (suc (suc (suc zero))) small = record { a = 65; b = 112; c = 114; is = refl }
month_is_three (suc (suc (suc (suc zero)))) small = record { a = 77; b = 97; c = 121; is = refl }
month_is_three (suc (suc (suc (suc (suc zero))))) small = record { a = 74; b = 117; c = 110; is = refl }
month_is_three (suc (suc (suc (suc (suc (suc zero)))))) small = record { a = 74; b = 117; c = 108; is = refl }
month_is_three (suc (suc (suc (suc (suc (suc (suc zero))))))) small = record { a = 65; b = 117; c = 103; is = refl }
month_is_three (suc (suc (suc (suc (suc (suc (suc (suc zero)))))))) small = record { a = 83; b = 101; c = 112; is = refl }
month_is_three (suc (suc (suc (suc (suc (suc (suc (suc (suc zero))))))))) small = record { a = 79; b = 99; c = 116; is = refl }
month_is_three (suc (suc (suc (suc (suc (suc (suc (suc (suc (suc zero)))))))))) small = record { a = 78; b = 111; c = 118; is = refl }
month_is_three (suc (suc (suc (suc (suc (suc (suc (suc (suc (suc (suc zero))))))))))) small = record { a = 68; b = 101; c = 99; is = refl }
month_is_three (suc (suc (suc (suc (suc (suc (suc (suc (suc (suc (suc (suc n)))))))))))) small = absurd (omega (arith, small))

day_of : (date : HttpDate) → IsThree (day_name date.parts.wday)
day_of date = subst (λ (w : ℕ). IsThree (day_name w)) (omega (arith, date.right_day)) (day_is_three (date.parts.wday - 1) (omega (arith, date.right_day)))

month_of : (date : HttpDate) → IsThree (month_name date.parts.mon)
month_of date =
    subst (λ (m : ℕ). IsThree (month_name m)) (omega (arith, date.civil)) (month_is_three (date.parts.mon - 1) (omega (arith, date.civil)))

pub day_at : (date : HttpDate) (text : List ℕ) → text ≡ date_text date → slice_range text 5 7 ≡ two_digits date.parts.day
day_at date text e = rw e (rw (day_of date).is refl)

pub month_at : (date : HttpDate) (text : List ℕ) → text ≡ date_text date → slice_range text 8 11 ≡ month_name date.parts.mon
month_at date text e = rw e (rw (day_of date).is (rw (month_of date).is refl))

pub year_at : (date : HttpDate) (text : List ℕ) → text ≡ date_text date → slice_range text 12 16 ≡ four_digits date.parts.year
year_at date text e = rw e (rw (day_of date).is (rw (month_of date).is refl))

pub time_at : (date : HttpDate) (text : List ℕ) → text ≡ date_text date → slice_range text 17 25 ≡ time_of_day date.parts
time_at date text e = rw e (rw (day_of date).is (rw (month_of date).is refl))
