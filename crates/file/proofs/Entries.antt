-- A call's header and shelf, once questions 1 and 2 are answered yes. Assumes nothing.
use mathlib.Core.Path.{◌≡◌}
use mathlib.Core.List.{List}
use Prim.Native.Nat.{ℕ}
use Rattle.std.specs.Prelude.{Ok}
use Rattle.model.specs.Session.{words_of_header}
use Rattle.model.specs.Numbers.{answer_of}
use Rattle.model.specs.declared.Header.{Header}
use Rattle.session.specs.Entering.{entry_asked}
use Rattle.session.proofs.Entries.{granted_means}
use Rattle.file.specs.Loading.{ShelfAsks}

pub shelf_entered : (s : List ℕ) (shelf : ℕ) (h : Header) → answer_of words_of_header (Ok h) ≡ entry_asked s shelf → ShelfAsks s h shelf
shelf_entered s shelf h granted =
    let e = granted_means s shelf h granted in
    record { header = rw e.same e.header; below = rw e.same e.below }
