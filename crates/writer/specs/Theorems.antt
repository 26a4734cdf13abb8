-- What is proved of a case written back: start here. `writer::write` (writer/src/lib.rt) takes a case c that is `Sound` (crate collector: the invariant of every case
-- that records make) and a buffer; with file = `file_of (items_of c)` it answers `written_of file` of the buffer's length, and leaves `buffer_after file` of its bytes.
-- Assumes nothing.
--
-- To be read with this file: items/specs/File.antt (the file of a case) and Written.antt. What is proved of that file for itself is in rules_laws/specs/Theorems.antt:
-- `file_again`, `file_back`, `held_back`, `one_file`.
use Rattle.std.specs.Prelude.{◌≡◌, List, ℕ, ◌≤◌, ◌<◌, length, take, drop, Err, Ok}
use Rattle.std.proofs.Math.Path.{refl, ap}
use Rattle.std.proofs.Common.{◌∙◌, le-leb}
use Rattle.std.proofs.Math.Seq.{take-append_seam, drop-append_seam}
use Rattle.std.proofs.lemmas.Bool.{lt-leb}
use Rattle.items.specs.File.{file_of}
use Rattle.answers.specs.declared.WriteError.TheVariants.{TooShort}
use Rattle.rules.specs.Files.{item_count}
use Rattle.collector.specs.declared.Case.{Case}
use Rattle.collector.specs.Cases.{items_of}
use Rattle.collector.specs.Taking.{collected}
use Rattle.collector.specs.Sound.{Sound}
use Rattle.rules_laws.specs.Theorems.{file_again}
use Rattle.writer.specs.Written.{written_of, buffer_after}

-- the file of the case
module _ (c : Case) (s : Sound c) (buffer : List ℕ) where
  abbrev file : List ℕ
  file = file_of (items_of c)

  -- where the buffer has room: the number of bytes is told, those after them stay as they were, and taking them in again from the empty case, every record is taken
  -- and the case is the same, all of it
  pub written_again : length (file_of (items_of c)) ≤ length buffer →
      let n = length (file_of (items_of c)) in
      let after = buffer_after (file_of (items_of c)) buffer in
      (written_of (file_of (items_of c)) (length buffer) ≡ Ok n)
      × (drop n after ≡ drop n buffer)
      × (collected (take n after) ≡ record { case = c; answer = Ok tt; taken = item_count (items_of c) })
  unfolding written_of buffer_after
  written_again h =
      rw (le-leb (length file) (length buffer) h) (
        refl,
        drop-append_seam file (drop (length file) buffer),
        ap (collected) (take-append_seam file (drop (length file) buffer)) ∙ file_again c s,
      )

  -- where it is shorter: 41, and it stays as it was
  pub too_short : length buffer < length (file_of (items_of c)) →
      (written_of (file_of (items_of c)) (length buffer) ≡ Err TooShort) × (buffer_after (file_of (items_of c)) buffer ≡ buffer)
  unfolding written_of buffer_after
  too_short h = rw (lt-leb (length file) (length buffer) h) (refl, refl)
