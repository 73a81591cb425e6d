-- The ACM formats (table 4-3; 28 to 37 by tables 3-1, 4-1 and 5-3 of 004) with their soft share, and the lookup's answer.
use Rattle.std.specs.Prelude.{◌≡◌, Bool, ◌&&◌, List, [], ◌∷◌, ℕ, ◌+◌, ◌-◌, ◌*◌, ◌^◌, leb, get_or, if◌then◌else◌, Result, Ok, Err}
use Rattle.bits.specs.Checks.{check_number, passed, bad_format}
use Rattle.bits.specs.declared.checks.Refusal.{Refusal}
use Rattle.acm.specs.declared.table.Format.{Format}

-- labels of a codeword (4.1), and the number of the interleaver's banks (annex C)
abbrev pub symbols : ℕ
symbols = 8100

abbrev pub M : ℕ
M = 120

-- information bits of a piece, and so of a BCH codeword (004, 4.3)
abbrev pub piece_length : ℕ
piece_length = 8048

-- the format's number, m, K, K1, K2, soft bits, I, W, N, S_sur, S, Δ
abbrev pub two_stage : ℕ → ℕ → ℕ → ℕ → ℕ → ℕ → ℕ → ℕ → ℕ → ℕ → ℕ → ℕ → Format
two_stage f m K K1 K2 soft I W N Ssur S Δ =
    record { number = f; m = m; k = K; i = I; w = W; n = N; k1 = K1; k2 = K2; soft = soft; survivors = Ssur; s = S; delta = Δ }

-- the format's number, m, K, I, W, N, S_sur, S, Δ, where K1 is K, K2 is 0, and all m bits of a label are soft
abbrev pub row : ℕ → ℕ → ℕ → ℕ → ℕ → ℕ → ℕ → ℕ → ℕ → Format
row f m K I W N Ssur S Δ = two_stage f m K K 0 m I W N Ssur S Δ

abbrev pub none : Format
none = row 0 0 0 0 0 0 0 0 0

unfoldable pub formats : List Format
formats =
    row 1 2 5758 8640 72 16200 300 8642 1084 ∷
    row 2 2 6958 10440 87 16200 300 10442 4684 ∷
    row 3 2 8398 12600 105 16200 274 11510 7912 ∷
    row 4 2 9838 14760 123 16200 251 12351 10913 ∷
    row 5 2 11278 16920 141 16200 234 13200 13922 ∷
    row 6 2 13198 19800 165 16200 218 14390 17992 ∷
    row 7 3 11278 16920 141 24300 292 16470 9092 ∷
    row 8 3 13198 19800 165 24300 240 15842 11344 ∷
    row 9 3 14878 22320 186 24300 250 18602 16624 ∷
    row 10 3 17038 25560 213 24300 234 19939 21201 ∷
    row 11 3 19198 28800 240 24300 221 21218 25720 ∷
    row 12 3 21358 32040 267 24300 214 22857 30599 ∷
    row 13 4 19198 28800 240 32400 255 24482 20884 ∷
    row 14 4 21358 32040 267 32400 241 25741 25383 ∷
    row 15 4 23518 35280 294 32400 230 27051 29933 ∷
    row 16 4 25918 38880 324 32400 220 28515 34997 ∷
    row 17 4 28318 42480 354 32400 211 29880 39962 ∷
    row 18 5 25918 38880 324 40500 245 31755 30137 ∷
    row 19 5 28318 42480 354 40500 234 33137 35119 ∷
    row 20 5 30958 46440 387 40500 224 34677 40619 ∷
    row 21 5 33358 50040 417 40500 217 36197 45739 ∷
    row 22 5 35998 54000 450 40500 210 37802 51304 ∷
    row 23 6 33358 50040 417 48600 236 39366 40808 ∷
    row 24 6 35998 54000 450 48600 228 41042 46444 ∷
    row 25 6 38638 57960 483 48600 220 42507 51869 ∷
    row 26 6 41038 61560 513 48600 214 43915 56877 ∷
    row 27 6 43678 65520 546 48600 208 45429 62351 ∷
    two_stage 28 7 43342 19198 24144 4 28800 240 56700 255 24482 20884 ∷
    two_stage 29 7 45502 21358 24144 4 32040 267 56700 241 25741 25383 ∷
    two_stage 30 7 47662 23518 24144 4 35280 294 56700 230 27051 29933 ∷
    two_stage 31 7 50062 25918 24144 4 38880 324 56700 220 28515 34997 ∷
    two_stage 32 7 52462 28318 24144 4 42480 354 56700 211 29880 39962 ∷
    two_stage 33 8 51390 19198 32192 4 28800 240 64800 255 24482 20884 ∷
    two_stage 34 8 53550 21358 32192 4 32040 267 64800 241 25741 25383 ∷
    two_stage 35 8 55710 23518 32192 4 35280 294 64800 230 27051 29933 ∷
    two_stage 36 8 58110 25918 32192 4 38880 324 64800 220 28515 34997 ∷
    two_stage 37 8 60510 28318 32192 4 42480 354 64800 211 29880 39962 ∷
    []

-- the number of the last format, and of the last whose bits all go through the trellises
abbrev pub last_format : ℕ
last_format = 37

abbrev pub last_one_stage : ℕ
last_one_stage = 27

abbrev pub is_format : ℕ → Bool
is_format f = leb 1 f && leb f last_format

-- the record of format f, and one of zeros where there is no such format
unfoldable pub format_of : ℕ → Format
format_of f = get_or (none ∷ formats) f none

-- table 4-3's P: parity bits of the trellises that are kept, the two terminating ones among them
abbrev pub P : Format → ℕ
P r = r.i - r.delta + 2

-- N1 (004, table 5-3): bits of a codeword that come from the trellises
abbrev pub N1 : Format → ℕ
N1 r = symbols * r.soft

-- hard bits (004, table 5-3): those of one label that the BCH code covers, and so the pieces of a block
abbrev pub hard_bits : Format → ℕ
hard_bits r = r.m - r.soft

-- every bit of a block goes through the trellises, and so every bit of a label is soft
pub record AllSoft (r : Format) : Type 0 where
  pub k1_is : r.k1 ≡ r.k
  pub k2_is : r.k2 ≡ 0
  pub soft-is : r.soft ≡ r.m

-- the largest K, I and N
abbrev pub most_k : ℕ
most_k = 60510

abbrev pub most_i : ℕ
most_i = 65520

abbrev pub most_n : ℕ
most_n = 64800

-- the largest label of format f: m bits, all 1
abbrev pub top_label : ℕ → ℕ
top_label f = 2 ^ (format_of f).m - 1

-- an answer in numbers: a refusal has 0 in every other field
pub record Answer : Type 0 where
  pub number : ℕ
  pub format : Format

abbrev pub refused : ℕ → Answer
refused number = record { number = number; format = none }

abbrev pub answer_of : Result Format Refusal → Answer
answer_of (Ok r) = record { number = passed; format = r }
answer_of (Err refusal) = refused (check_number refusal)

abbrev pub looked_up : ℕ → Answer
looked_up f =
    if is_format f then record { number = passed; format = format_of f }
    else refused bad_format
