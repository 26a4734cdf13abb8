-- The three demands, each as one theorem: read this first. A file is a list of bytes, and `answer_of` has the three numbers that it is answered. Assumes nothing.
--
-- One promise ties them to the code: `casefile::answer` (casefile/src/lib.rt), which the program calls, ensures `r ≡ answer_of bytes` for every byte slice.
-- Where demand 1 speaks of the case that is held, it is what `Case::take` hands back and what `Case::take_all` leaves in place (collector/src/lib.rt: `result ≡ taken_of ..`;
-- `self.new ≡ (collected_of ..).case`, `result ≡ counted (collected_of ..)`).
--
-- To be read with this file, small crates of definitions that can be read whole, in this order:
-- record/specs (Spelling, Layout, Spell), kinds/specs (Kinds, Contents), table/specs (Sorts, Table), items/specs (Items, Lists), answers/specs/Answers.antt,
-- rules/specs, counters/specs/Sum.antt, laws/specs/All.antt, meaning/specs (and of laws/specs `tab`, `nth` and `lowest`).
-- Of the collector only `items_of` and `empty_case` (collector/specs/Cases.antt): what a case holds, and the empty one.
--
-- Not to be read to believe them: the computation (how `answer_of`, `taken_of`, `collected_of` and `verdict` work), and every crate of laws.
use Rattle.std.specs.Prelude.{◌≡◌, ◌↔◌, ◌⊎◌, List, [], ◌++◌, map, false, ℕ, ◌+◌, ◌*◌, ◌≤◌, ℤ, ◌≤ℤ◌, length, get_or, take}
use Rattle.record.specs.Layout.{fields, record_length, bytes_at, cut}
use Rattle.record.specs.Spell.{IsSpelling, ReadAs}
use Rattle.kinds.specs.declared.Kind.{Kind}
use Rattle.kinds.specs.declared.Kind.TheVariants as kind
use Rattle.kinds.specs.Kinds.{letter_of}
use Rattle.items.specs.Items.{row_of}
use Rattle.items.specs.Lists.{list_of}
use Rattle.answers.specs.Answers.{is_taken, refusal, numbers_of, Answer, Judgement}
use Rattle.rules.specs.Rules.{content_at, BadPlace}
use Rattle.rules.specs.Files.{rows_of, spelled_by, spelled, AllTaken, Refused}
use Rattle.collector.specs.declared.Case.{Case}
use Rattle.collector.specs.Cases.{empty_case, items_of}
use Rattle.collector.specs.Taking.{taken_of, collected_of}
use Rattle.rules_laws.specs.Bytes.{field_read}
use Rattle.rules_laws.specs.Theorems.{refused}
use Rattle.meaning.specs.Judged.{Finished, Judged, start_of}
use Rattle.meaning.specs.Paper.{Means}
use Rattle.meaning.specs.Files.{FileAccepted, rounds_at}
use Rattle.meaning.specs.Listed.{Listed}
use Rattle.meaning_laws.specs.Theorems.{file_between}
use Rattle.casefile.specs.Answer.{answer_of}
use Rattle.casefile.specs.Listed.{listed}
use Rattle.casefile.specs.Refused.{file_refused, file_ends}
use Rattle.casefile.specs.Taken.{case_is, fields_are, judgement_is, answers_judged, accepts_means, file_accepts, file_means, names_bad}

-- the checker accepts a file: its result is 0
abbrev pub Accepts : List ℕ → Type 0
Accepts bs = (answer_of bs).result ≡ 0

-- it accepts exactly the files that the meaning accepts
pub checker_accepts : (bs : List ℕ) → Accepts bs ↔ FileAccepted bs
checker_accepts = file_accepts

-- ---- demand 1

-- "A case file of any bytes and any length gets exactly one of the listed results. No number is read in part. A refused record leaves the case as it stood;
-- a judgement alters nothing."
pub record Demand1 : Type 0 where
  -- the three numbers of a file are those of a listed result; it gets no other, as `answer_of` is a function
  pub listed : (bs : List ℕ) → Listed (answer_of bs)
  -- all its records are taken, or there is a first record to which a refusal applies, with the first that does
  pub first : (bs : List ℕ) → AllTaken (cut bs) ⊎ ((k : ℕ) × (a : Answer) × Refused [] (cut bs) k a)
  -- where that is refusal a of record k, the numbers are those of a and k, and the case that is held is the one that the records before k spell
  pub stopped : (bs : List ℕ) (k : ℕ) (a : Answer) → Refused [] (cut bs) k a →
      (answer_of bs ≡ refusal k a) × (items_of (collected_of empty_case bs).case ≡ spelled_by (take k (cut bs)))
  -- where the result is 14, the third number is the place, in the record that the second names, of the bad byte of its lowest field that has one
  pub misspelled : (bs : List ℕ) → (answer_of bs).result ≡ 14 → BadPlace (get_or (cut bs) (answer_of bs).second []) (answer_of bs).third
  -- a field of a record is read by all its seven bytes: blank exactly where they are spaces, a number exactly where they are its spelling, bad at a byte exactly
  -- where that is their bad byte
  pub read : (b : List ℕ) → length b ≡ record_length → (f : ℕ) → 1 ≤ f → f ≤ fields → ReadAs (bytes_at b f) (content_at b f)
  -- and the items of the case have the fields of the records again: no number is cut where it is kept
  pub kept : (bs : List ℕ) → AllTaken (cut bs) → (k : Kind) → map (row_of k) (list_of k (spelled bs)) ≡ rows_of k (cut bs)
  -- a refused record leaves the case as it stood, all of it
  pub refused : (c : Case) (b : List ℕ) → is_taken (taken_of c b).answer ≡ false → (taken_of c b).case ≡ c
  -- a judgement alters nothing by its type: it takes a case and hands back an answer, and no case. What is left to say: the case that is held when all
  -- records are taken is the one that the file spells, and the numbers are those of a judgement of that case
  pub unaltered : (bs : List ℕ) → AllTaken (cut bs) →
      (items_of (collected_of empty_case bs).case ≡ spelled bs) × ((a : Judgement) × Judged (spelled bs) (start_of (spelled bs)) a × (answer_of bs ≡ numbers_of a))

pub demand_1 : Demand1
demand_1 =
    record {
      listed = listed;
      first = file_refused;
      stopped = file_ends;
      misspelled = names_bad;
      read = field_read;
      kept = fields_are;
      refused = refused;
      unaltered = λ bs h. (case_is bs h, judgement_is bs h);
    }

-- ---- demand 2

-- "Of a case whose records are all taken, with a sentence and a closed endless loop: acceptance means, and is refused only where it fails, that the named moves
-- connect and make a run of the counter system, that every sentence at every place is marked as it is at every moment of that place, and that the last sentence
-- is true at the start." And each answer is given, with its numbers, exactly where the meaning says so, also where there is no sentence or no closed loop.
pub demand_2 : (bs : List ℕ) → AllTaken (cut bs) →
    (Finished (spelled bs) → Accepts bs ↔ Means (spelled bs) (start_of (spelled bs)))
    × ((a : Judgement) → (answer_of bs ≡ numbers_of a) ↔ Judged (spelled bs) (start_of (spelled bs)) a)
demand_2 bs h = (accepts_means bs h, answers_judged bs h)

-- and so the files that the meaning accepts, of which demand 3 speaks, are those of which demand 2's words are true
pub accepted_means : (bs : List ℕ) → FileAccepted bs ↔ (AllTaken (cut bs) × Finished (spelled bs) × Means (spelled bs) (start_of (spelled bs)))
accepted_means = file_means

-- ---- demand 3

-- "Every number of rounds between two accepted ones is accepted: for three files alike in every byte but the rounds field of one counted loop, spelling
-- a ≤ b ≤ c, if those with a and c are accepted, so is the one with b. Shown of the meaning in 2 for every such three, and so of the checker."
-- The field is that of record i: its first byte is P, and the rounds field begins `rounds_at` bytes after it.
pub demand_3 : (pre post fa fb fc : List ℕ) (i : ℕ) (a b c : ℤ) →
    length pre ≡ record_length * i + rounds_at → get_or pre (record_length * i) 0 ≡ letter_of kind.Place →
    IsSpelling fa a → IsSpelling fb b → IsSpelling fc c → a ≤ℤ b → b ≤ℤ c →
    (FileAccepted (pre ++ (fa ++ post)) → FileAccepted (pre ++ (fc ++ post)) → FileAccepted (pre ++ (fb ++ post)))
    × (Accepts (pre ++ (fa ++ post)) → Accepts (pre ++ (fc ++ post)) → Accepts (pre ++ (fb ++ post)))
demand_3 pre post fa fb fc i a b c l p sa sb sc ab bc =
    let between = file_between pre post fa fb fc i a b c l p sa sb sc ab bc in
    (between, λ x z. (checker_accepts _).1 (between ((checker_accepts _).0 x) ((checker_accepts _).0 z)))
