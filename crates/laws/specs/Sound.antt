-- Sound shelves and solid takes: a sound shelf's take is solid and gives its words again, and a solid take that fits makes a sound shelf.
-- Assumes nothing.
use Rattle.std.specs.Prelude.{true, List, ◌≡◌, ◌<◌, ◌≤◌, ℕ, length}
use Rattle.std.proofs.Common.{◌∙◌, sym}
use Rattle.model.specs.Questions.{fits}
use Rattle.model.specs.Soundness.{sound_shelf}
use Rattle.model.specs.Takes.{Take, notes_in, notes_of, take_in, word, words_of, words_used}
use Rattle.model.specs.declared.Header.{Header}
use Rattle.laws.specs.Chain.{chain_shelf}
use Rattle.laws.specs.ChainSolid.{chain-notes, chain_solid, chain_words, parts, solid_chain}
use Rattle.laws.specs.Clauses.{sound-chain}
use Rattle.laws.specs.Solid.{Solid}

module _ (H : Header) (z : 0 < H.delta) where
  module _ (ws : List ℕ) (e : sound_shelf H ws ≡ true) where
    in_chain : chain_shelf H ws ≡ true
    in_chain = sym (sound-chain H z ws) ∙ e

    -- a sound shelf's take is solid
    pub sound_solid : Solid H.delta (take_in H.delta ws)
    sound_solid = chain_solid H z ws in_chain

    -- the notes of a sound shelf are its take's
    pub sound-notes : notes_of H (take_in H.delta ws) ≡ notes_in ws
    sound-notes = chain-notes H z ws in_chain

    -- a sound shelf's words are those of its take
    pub words_again : length ws ≡ H.words → words_of H (take_in H.delta ws) ≡ ws
    words_again n = chain_words H z ws n in_chain

    pub sound_used : words_used (word ws 1) (word ws 2) ≤ H.words
    sound_used = (parts H ws in_chain).used_ok

    pub sound_beats : word ws 0 ≤ 4096
    sound_beats = (parts H ws in_chain).beats_ok

  -- the words of a solid take that fits are a sound shelf
  pub solid_sound : H.epsilon ≤ H.delta → (t : Take) → Solid H.delta t → t.beats ≤ 4096 → fits H t ≡ true → sound_shelf H (words_of H t) ≡ true
  solid_sound le t s b f = sound-chain H z (words_of H t) ∙ solid_chain H z le t s b f
