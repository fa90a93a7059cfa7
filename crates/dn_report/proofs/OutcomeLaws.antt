-- The law of outcome lines.
use Rattle.std.proofs.Common.{◌≡◌, ℕ, List, [], ◌∷◌, Option, Some, None, refl}
use Rattle.std.specs.Prelude.{codes}
use Rattle.std.specs.List.{AllByRecursion}
use Rattle.dn_lines.specs.Form.{last, ◌▸◌, each, no_other}
use Rattle.dn_lines.specs.Fields.{number, long_number, bytes, client, server, slot, round, member}
use Rattle.dn_lines.specs.Exact.{IsExactForm, IsFree}
use Rattle.dn_lines.proofs.FormLaws.{nothing_exact, last_exact, then_exact, each_exact, kind_found, of_kind_found, nothing_found, IsKind, Found}
use Rattle.dn_lines.proofs.FieldLaws.{number_exact, long_number_exact, bytes_exact, client_exact, server_exact, slot_exact, round_exact, member_exact, free_from_test}
use Rattle.dn_report.specs.declared.outcome.Outcome.{Outcome}
use Rattle.dn_report.specs.declared.outcome.Outcome.TheVariants as outcomes
use Rattle.dn_report.specs.Words.{told_word, ignored_word, spoil_word, unopened_word, blame_word}
use Rattle.dn_report.specs.Forms.{pair, post_line, sent_line, full_line, opened_line, closed_line, abandoned_line, told_line, spoiled_line, certified_line, held_line, listed_line, out_line, thin_line, message_line, garbled_line, ignored_line, early_line, taken_line, noted_line, kept_line, dropped_line, unopened_line, blame_line, silent_line, read_post_line, read_sent_line, read_full_line, read_opened_line, read_closed_line, read_abandoned_line, read_told_line, read_spoiled_line, read_certified_line, read_held_line, read_listed_line, read_out_line, read_thin_line, read_message_line, read_garbled_line, read_ignored_line, read_early_line, read_taken_line, read_noted_line, read_kept_line, read_dropped_line, read_unopened_line, read_blame_line, read_silent_line}
use Rattle.dn_report.specs.Lines.{outcome_fields, IsOutcome, outcome_kinds, read_outcome}
use Rattle.dn_report.proofs.WordLaws.{told_word_exact, ignored_word_exact, spoil_word_exact, unopened_word_exact, blame_word_exact}
use Rattle.dn_report.proofs.PartLaws.{pair_exact}

-- these are the fields of an outcome line that may stand
abbrev pub SpellsOutcome : Outcome → List (List ℕ) → Type 0
SpellsOutcome o fields = (fields ≡ outcome_fields o) × IsOutcome o

pub post_line_exact : IsExactForm post_line
post_line_exact = then_exact long_number (member ▸ last bytes) long_number_exact (then_exact member (last bytes) member_exact (last_exact bytes bytes_exact))

pub post_line_found : IsKind SpellsOutcome (record { word = codes "post"; read = read_post_line })
unfolding read_post_line
post_line_found = kind_found post_line (λ x. outcomes.Post x.0 x.1.0 x.1.1) SpellsOutcome (codes "post") post_line_exact (λ x fits. (refl, fits))

pub sent_line_exact : IsExactForm sent_line
sent_line_exact = then_exact long_number (long_number ▸ last member) long_number_exact (then_exact long_number (last member) long_number_exact (last_exact member member_exact))

pub sent_line_found : IsKind SpellsOutcome (record { word = codes "sent"; read = read_sent_line })
unfolding read_sent_line
sent_line_found = kind_found sent_line (λ x. outcomes.Sent x.0 x.1.0 x.1.1) SpellsOutcome (codes "sent") sent_line_exact (λ x fits. (refl, fits))

pub full_line_exact : IsExactForm full_line
full_line_exact = then_exact long_number (last member) long_number_exact (last_exact member member_exact)

pub full_line_found : IsKind SpellsOutcome (record { word = codes "full"; read = read_full_line })
unfolding read_full_line
full_line_found = kind_found full_line (λ x. outcomes.Full x.0 x.1) SpellsOutcome (codes "full") full_line_exact (λ x fits. (refl, fits))

pub opened_line_exact : IsExactForm opened_line
opened_line_exact = then_exact server (round ▸ last round) server_exact (then_exact round (last round) round_exact (last_exact round round_exact))

pub opened_line_found : IsKind SpellsOutcome (record { word = codes "opened"; read = read_opened_line })
unfolding read_opened_line
opened_line_found = kind_found opened_line (λ x. outcomes.Opened x.0 x.1.0 x.1.1) SpellsOutcome (codes "opened") opened_line_exact (λ x fits. (refl, fits))

pub closed_line_exact : IsExactForm closed_line
closed_line_exact = then_exact server (round ▸ last number) server_exact (then_exact round (last number) round_exact (last_exact number number_exact))

pub closed_line_found : IsKind SpellsOutcome (record { word = codes "closed"; read = read_closed_line })
unfolding read_closed_line
closed_line_found = kind_found closed_line (λ x. outcomes.Closed x.0 x.1.0 x.1.1) SpellsOutcome (codes "closed") closed_line_exact (λ x fits. (refl, fits))

pub abandoned_line_exact : IsExactForm abandoned_line
abandoned_line_exact = then_exact server (last round) server_exact (last_exact round round_exact)

pub abandoned_line_found : IsKind SpellsOutcome (record { word = codes "abandoned"; read = read_abandoned_line })
unfolding read_abandoned_line
abandoned_line_found = kind_found abandoned_line (λ x. outcomes.Abandoned x.0 x.1) SpellsOutcome (codes "abandoned") abandoned_line_exact (λ x fits. (refl, fits))

pub told_line_exact : IsExactForm told_line
told_line_exact = then_exact client (server ▸ round ▸ last told_word) client_exact (then_exact server (round ▸ last told_word) server_exact (then_exact round (last told_word) round_exact (last_exact told_word told_word_exact)))

pub told_line_found : IsKind SpellsOutcome (record { word = codes "told"; read = read_told_line })
unfolding read_told_line
told_line_found = kind_found told_line (λ x. outcomes.Told x.0 x.1.0 x.1.1.0 x.1.1.1) SpellsOutcome (codes "told") told_line_exact (λ x fits. (refl, fits))

pub spoiled_line_exact : IsExactForm spoiled_line
spoiled_line_exact = then_exact server (round ▸ server ▸ last spoil_word) server_exact (then_exact round (server ▸ last spoil_word) round_exact (then_exact server (last spoil_word) server_exact (last_exact spoil_word spoil_word_exact)))

pub spoiled_line_found : IsKind SpellsOutcome (record { word = codes "spoiled"; read = read_spoiled_line })
unfolding read_spoiled_line
spoiled_line_found = kind_found spoiled_line (λ x. outcomes.Spoiled x.0 x.1.0 x.1.1.0 x.1.1.1) SpellsOutcome (codes "spoiled") spoiled_line_exact (λ x fits. (refl, fits))

pub certified_line_exact : IsExactForm certified_line
certified_line_exact = then_exact server (last round) server_exact (last_exact round round_exact)

pub certified_line_found : IsKind SpellsOutcome (record { word = codes "certified"; read = read_certified_line })
unfolding read_certified_line
certified_line_found = kind_found certified_line (λ x. outcomes.Certified x.0 x.1) SpellsOutcome (codes "certified") certified_line_exact (λ x fits. (refl, fits))

pub held_line_exact : IsExactForm held_line
held_line_exact = then_exact member (last round) member_exact (last_exact round round_exact)

pub held_line_found : IsKind SpellsOutcome (record { word = codes "held"; read = read_held_line })
unfolding read_held_line
held_line_found = kind_found held_line (λ x. outcomes.Held x.0 x.1) SpellsOutcome (codes "held") held_line_exact (λ x fits. (refl, fits))

pub listed_line_exact : IsExactForm listed_line
listed_line_exact = then_exact round (each pair) round_exact (each_exact pair pair_exact)

pub listed_line_found : IsKind SpellsOutcome (record { word = codes "listed"; read = read_listed_line })
unfolding read_listed_line
listed_line_found = kind_found listed_line (λ x. outcomes.Listed x.0 x.1) SpellsOutcome (codes "listed") listed_line_exact (λ x fits. (refl, fits))

pub out_line_exact : IsExactForm out_line
out_line_exact = then_exact round (last bytes) round_exact (last_exact bytes bytes_exact)

pub out_line_found : IsKind SpellsOutcome (record { word = codes "out"; read = read_out_line })
unfolding read_out_line
out_line_found = kind_found out_line (λ x. outcomes.Out x.0 x.1) SpellsOutcome (codes "out") out_line_exact (λ x fits. (refl, fits))

pub thin_line_exact : IsExactForm thin_line
thin_line_exact = then_exact round (number ▸ last number) round_exact (then_exact number (last number) number_exact (last_exact number number_exact))

pub thin_line_found : IsKind SpellsOutcome (record { word = codes "thin"; read = read_thin_line })
unfolding read_thin_line
thin_line_found = kind_found thin_line (λ x. outcomes.Thin x.0 x.1.0 x.1.1) SpellsOutcome (codes "thin") thin_line_exact (λ x fits. (refl, fits))

pub message_line_exact : IsExactForm message_line
message_line_exact = then_exact round (slot ▸ last bytes) round_exact (then_exact slot (last bytes) slot_exact (last_exact bytes bytes_exact))

pub message_line_found : IsKind SpellsOutcome (record { word = codes "message"; read = read_message_line })
unfolding read_message_line
message_line_found = kind_found message_line (λ x. outcomes.Message x.0 x.1.0 x.1.1) SpellsOutcome (codes "message") message_line_exact (λ x fits. (refl, fits))

pub garbled_line_exact : IsExactForm garbled_line
garbled_line_exact = then_exact round (last slot) round_exact (last_exact slot slot_exact)

pub garbled_line_found : IsKind SpellsOutcome (record { word = codes "garbled"; read = read_garbled_line })
unfolding read_garbled_line
garbled_line_found = kind_found garbled_line (λ x. outcomes.Garbled x.0 x.1) SpellsOutcome (codes "garbled") garbled_line_exact (λ x fits. (refl, fits))

pub ignored_line_exact : IsExactForm ignored_line
ignored_line_exact = last_exact ignored_word ignored_word_exact

pub ignored_line_found : IsKind SpellsOutcome (record { word = codes "ignored"; read = read_ignored_line })
unfolding read_ignored_line
ignored_line_found = kind_found ignored_line (λ x. outcomes.Ignored x) SpellsOutcome (codes "ignored") ignored_line_exact (λ x fits. (refl, fits))

pub early_line_exact : IsExactForm early_line
early_line_exact = nothing_exact

pub early_line_found : IsKind SpellsOutcome (record { word = codes "early"; read = read_early_line })
unfolding read_early_line
early_line_found = kind_found early_line (λ x. outcomes.Early) SpellsOutcome (codes "early") early_line_exact (λ x fits. (refl, fits))

pub taken_line_exact : IsExactForm taken_line
taken_line_exact = nothing_exact

pub taken_line_found : IsKind SpellsOutcome (record { word = codes "taken"; read = read_taken_line })
unfolding read_taken_line
taken_line_found = kind_found taken_line (λ x. outcomes.Taken) SpellsOutcome (codes "taken") taken_line_exact (λ x fits. (refl, fits))

pub noted_line_exact : IsExactForm noted_line
noted_line_exact = nothing_exact

pub noted_line_found : IsKind SpellsOutcome (record { word = codes "noted"; read = read_noted_line })
unfolding read_noted_line
noted_line_found = kind_found noted_line (λ x. outcomes.Noted) SpellsOutcome (codes "noted") noted_line_exact (λ x fits. (refl, fits))

pub kept_line_exact : IsExactForm kept_line
kept_line_exact = nothing_exact

pub kept_line_found : IsKind SpellsOutcome (record { word = codes "kept"; read = read_kept_line })
unfolding read_kept_line
kept_line_found = kind_found kept_line (λ x. outcomes.Kept) SpellsOutcome (codes "kept") kept_line_exact (λ x fits. (refl, fits))

pub dropped_line_exact : IsExactForm dropped_line
dropped_line_exact = last_exact number number_exact

pub dropped_line_found : IsKind SpellsOutcome (record { word = codes "dropped"; read = read_dropped_line })
unfolding read_dropped_line
dropped_line_found = kind_found dropped_line (λ x. outcomes.Dropped x) SpellsOutcome (codes "dropped") dropped_line_exact (λ x fits. (refl, fits))

pub unopened_line_exact : IsExactForm unopened_line
unopened_line_exact = last_exact unopened_word unopened_word_exact

pub unopened_line_found : IsKind SpellsOutcome (record { word = codes "unopened"; read = read_unopened_line })
unfolding read_unopened_line
unopened_line_found = kind_found unopened_line (λ x. outcomes.Unopened x) SpellsOutcome (codes "unopened") unopened_line_exact (λ x fits. (refl, fits))

pub blame_line_exact : IsExactForm blame_line
blame_line_exact = then_exact member (last blame_word) member_exact (last_exact blame_word blame_word_exact)

pub blame_line_found : IsKind SpellsOutcome (record { word = codes "blame"; read = read_blame_line })
unfolding read_blame_line
blame_line_found = kind_found blame_line (λ x. outcomes.Blame x.0 x.1) SpellsOutcome (codes "blame") blame_line_exact (λ x fits. (refl, fits))

pub silent_line_exact : IsExactForm silent_line
silent_line_exact = last_exact member member_exact

pub silent_line_found : IsKind SpellsOutcome (record { word = codes "silent"; read = read_silent_line })
unfolding read_silent_line
silent_line_found = kind_found silent_line (λ x. outcomes.Silent x) SpellsOutcome (codes "silent") silent_line_exact (λ x fits. (refl, fits))

-- ---- all of them

pub outcome_found : Found SpellsOutcome read_outcome
unfolding read_outcome
outcome_found = of_kind_found SpellsOutcome outcome_kinds no_other all (nothing_found SpellsOutcome)
  where
    all : AllByRecursion (IsKind SpellsOutcome) outcome_kinds
    all = (post_line_found, (sent_line_found, (full_line_found, (opened_line_found, (closed_line_found, (abandoned_line_found, (told_line_found, (spoiled_line_found, (certified_line_found, (held_line_found, (listed_line_found, (out_line_found, (thin_line_found, (message_line_found, (garbled_line_found, (ignored_line_found, (early_line_found, (taken_line_found, (noted_line_found, (kept_line_found, (dropped_line_found, (unopened_line_found, (blame_line_found, (silent_line_found, tt))))))))))))))))))))))))

-- what is read from the fields of an outcome line
abbrev read_all : List (List ℕ) → Option Outcome
read_all [] = None
read_all (word ∷ fields) = read_outcome word fields

pub outcome_known : (o : Outcome) → IsOutcome o → read_all (outcome_fields o) ≡ Some o
unfolding read_outcome read_post_line read_sent_line read_full_line read_opened_line read_closed_line read_abandoned_line read_told_line read_spoiled_line read_certified_line read_held_line read_listed_line read_out_line read_thin_line read_message_line read_garbled_line read_ignored_line read_early_line read_taken_line read_noted_line read_kept_line read_dropped_line read_unopened_line read_blame_line read_silent_line
outcome_known (outcomes.Post payload by bytes) fits = rw (post_line_exact.knows (payload, (by, bytes)) fits) refl
outcome_known (outcomes.Sent id payload to) fits = rw (sent_line_exact.knows (id, (payload, to)) fits) refl
outcome_known (outcomes.Full payload to) fits = rw (full_line_exact.knows (payload, to) fits) refl
outcome_known (outcomes.Opened server r prev) fits = rw (opened_line_exact.knows (server, (r, prev)) fits) refl
outcome_known (outcomes.Closed server r count) fits = rw (closed_line_exact.knows (server, (r, count)) fits) refl
outcome_known (outcomes.Abandoned server r) fits = rw (abandoned_line_exact.knows (server, r) fits) refl
outcome_known (outcomes.Told client server r told) fits = rw (told_line_exact.knows (client, (server, (r, told))) fits) refl
outcome_known (outcomes.Spoiled server r by reason) fits = rw (spoiled_line_exact.knows (server, (r, (by, reason))) fits) refl
outcome_known (outcomes.Certified server r) fits = rw (certified_line_exact.knows (server, r) fits) refl
outcome_known (outcomes.Held member r) fits = rw (held_line_exact.knows (member, r) fits) refl
outcome_known (outcomes.Listed r pairs) fits = rw (listed_line_exact.knows (r, pairs) fits) refl
outcome_known (outcomes.Out r bytes) fits = rw (out_line_exact.knows (r, bytes) fits) refl
outcome_known (outcomes.Thin r count last) fits = rw (thin_line_exact.knows (r, (count, last)) fits) refl
outcome_known (outcomes.Message r slot text) fits = rw (message_line_exact.knows (r, (slot, text)) fits) refl
outcome_known (outcomes.Garbled r slot) fits = rw (garbled_line_exact.knows (r, slot) fits) refl
outcome_known (outcomes.Ignored word) fits = rw (ignored_line_exact.knows word fits) refl
outcome_known outcomes.Early fits = refl
outcome_known outcomes.Taken fits = refl
outcome_known outcomes.Noted fits = refl
outcome_known outcomes.Kept fits = refl
outcome_known (outcomes.Dropped count) fits = rw (dropped_line_exact.knows count fits) refl
outcome_known (outcomes.Unopened word) fits = rw (unopened_line_exact.knows word fits) refl
outcome_known (outcomes.Blame member reason) fits = rw (blame_line_exact.knows (member, reason) fits) refl
outcome_known (outcomes.Silent member) fits = rw (silent_line_exact.knows member fits) refl

pub outcome_free : (o : Outcome) → IsOutcome o → AllByRecursion (IsFree 32) (outcome_fields o)
outcome_free (outcomes.Post payload by bytes) fits = (free_from_test 32 (codes "post") refl, post_line_exact.free (payload, (by, bytes)) fits)
outcome_free (outcomes.Sent id payload to) fits = (free_from_test 32 (codes "sent") refl, sent_line_exact.free (id, (payload, to)) fits)
outcome_free (outcomes.Full payload to) fits = (free_from_test 32 (codes "full") refl, full_line_exact.free (payload, to) fits)
outcome_free (outcomes.Opened server r prev) fits = (free_from_test 32 (codes "opened") refl, opened_line_exact.free (server, (r, prev)) fits)
outcome_free (outcomes.Closed server r count) fits = (free_from_test 32 (codes "closed") refl, closed_line_exact.free (server, (r, count)) fits)
outcome_free (outcomes.Abandoned server r) fits = (free_from_test 32 (codes "abandoned") refl, abandoned_line_exact.free (server, r) fits)
outcome_free (outcomes.Told client server r told) fits = (free_from_test 32 (codes "told") refl, told_line_exact.free (client, (server, (r, told))) fits)
outcome_free (outcomes.Spoiled server r by reason) fits = (free_from_test 32 (codes "spoiled") refl, spoiled_line_exact.free (server, (r, (by, reason))) fits)
outcome_free (outcomes.Certified server r) fits = (free_from_test 32 (codes "certified") refl, certified_line_exact.free (server, r) fits)
outcome_free (outcomes.Held member r) fits = (free_from_test 32 (codes "held") refl, held_line_exact.free (member, r) fits)
outcome_free (outcomes.Listed r pairs) fits = (free_from_test 32 (codes "listed") refl, listed_line_exact.free (r, pairs) fits)
outcome_free (outcomes.Out r bytes) fits = (free_from_test 32 (codes "out") refl, out_line_exact.free (r, bytes) fits)
outcome_free (outcomes.Thin r count last) fits = (free_from_test 32 (codes "thin") refl, thin_line_exact.free (r, (count, last)) fits)
outcome_free (outcomes.Message r slot text) fits = (free_from_test 32 (codes "message") refl, message_line_exact.free (r, (slot, text)) fits)
outcome_free (outcomes.Garbled r slot) fits = (free_from_test 32 (codes "garbled") refl, garbled_line_exact.free (r, slot) fits)
outcome_free (outcomes.Ignored word) fits = (free_from_test 32 (codes "ignored") refl, ignored_line_exact.free word fits)
outcome_free outcomes.Early fits = (free_from_test 32 (codes "early") refl, early_line_exact.free tt fits)
outcome_free outcomes.Taken fits = (free_from_test 32 (codes "taken") refl, taken_line_exact.free tt fits)
outcome_free outcomes.Noted fits = (free_from_test 32 (codes "noted") refl, noted_line_exact.free tt fits)
outcome_free outcomes.Kept fits = (free_from_test 32 (codes "kept") refl, kept_line_exact.free tt fits)
outcome_free (outcomes.Dropped count) fits = (free_from_test 32 (codes "dropped") refl, dropped_line_exact.free count fits)
outcome_free (outcomes.Unopened word) fits = (free_from_test 32 (codes "unopened") refl, unopened_line_exact.free word fits)
outcome_free (outcomes.Blame member reason) fits = (free_from_test 32 (codes "blame") refl, blame_line_exact.free (member, reason) fits)
outcome_free (outcomes.Silent member) fits = (free_from_test 32 (codes "silent") refl, silent_line_exact.free member fits)
