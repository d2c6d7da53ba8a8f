-- What a list of calls reaches: every shelf is sound, and question 4 never refuses what the calls themselves made. Assumes nothing.
use Rattle.std.specs.Prelude.{true, List, ◌≢◌, ◌≡◌, ◌<◌, ℕ}
use Rattle.std.proofs.Common.{◌∙◌, ap, sym}
use Rattle.model.specs.Machine as M
use Rattle.model.specs.Machine.{open_call}
use Rattle.model.specs.Questions as Q
use Rattle.model.specs.Session.{shelf}
use Rattle.model.specs.Soundness.{sound_shelf}
use Rattle.model.specs.declared.Header.{Header}
use Rattle.laws.specs.Reached.{kept-sound, never_four}
use Rattle.history.specs.Lists.{Call}
use Rattle.history.specs.Claim.{machine_kept, machine_after, session_claim, session_after}

module _ (s : List ℕ) (H : Header) (o : Q.number s (open_call H) ≡ 0) where
  pub reached_sound : (cs : List Call) (i : ℕ) → i < (machine_after s H o cs).header.shelves
      → sound_shelf (machine_after s H o cs).header (shelf (machine_after s H o cs).header (session_after s H o cs) i) ≡ true
  reached_sound cs i b =
      let m = machine_after s H o cs in
      ap (λ (w : List ℕ). sound_shelf m.header (shelf m.header w i)) (session_claim s H o cs) ∙ kept-sound m (machine_kept s H o cs) i b

  pub reached_never_four : (cs : List Call) (c : M.Call) → Q.number (session_after s H o cs) c ≢ 4
  reached_never_four cs c e =
      never_four (machine_after s H o cs) (machine_kept s H o cs) c (ap (λ (w : List ℕ). Q.number w c) (sym (session_claim s H o cs)) ∙ e)
