-- What a line says whose fields are as many as its letter takes.
use Rattle.std.specs.Prelude.{◌≡◌, List, ℕ, ◌≤◌, ℤ, length, take}
use Rattle.job_text.specs.Letters.{letters, most_fields, field_count}
use Rattle.job_text.specs.LetterLaws.{own_fields, fit}
use Rattle.job_text.specs.Lines.{Numbers, all, said_behind}
use Rattle.job_text.specs.Fields.{few, said_in}
use Rattle.job_text.specs.LineLaws.{few_inv, as_many}

module _ (byte : ℕ) (r : Numbers) where
  module _ (n : ℕ) (vs : List ℤ) (few-enough : n ≤ most_fields) (size : most_fields ≤ length vs) (read : all (take n vs) ≡ few r) where
    pub fitting : n ≡ field_count byte → said_in byte vs ≡ said_behind byte r
    unfolding said_in field_count
    fitting e = rw (few_inv r (take n vs) read) (fit letters byte vs n e (as_many byte r n vs few-enough size read) (own_fields vs))
