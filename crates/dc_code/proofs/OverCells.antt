-- Cells of every form run alike: they hold their entries, and end as over the store that they show.
use Rattle.std.proofs.Common.{◌≡◌, refl, ap, ◌∙◌}
use Rattle.dc_int.specs.Entries.{Entry, Reads, Defines, Undefines, Contributes, store_after_entry}
use Rattle.dc_int.specs.Store.{Store, value_at, bounds_of}
use Rattle.dc_code.specs.Computation.{Computation, give, fail, read, define, undefine, contribute, ask, pause, over}
use Rattle.dc_code.specs.OverCells.{over_cells, after_entries}

pub over-any : {M E T A : Type 0} (shown : M → Store) (after : Entry → M → M)
    → ((entry : Entry) (held : M) → shown (after entry held) ≡ store_after_entry entry (shown held))
    → (held : M) (c : Computation E T A)
    → over_cells shown after held c ≡ record { meaning = after_entries after (over (shown held) c).entries held; reached = (over (shown held) c).reached }
over-any shown after shows held (give a) = refl
over-any shown after shows held (fail trouble) = refl
over-any shown after shows held (read x line rest) =
    over-any shown after shows (after (Reads x line) held) (rest (value_at (shown held) x))
    ∙ ap (λ store. record { meaning = after_entries after (over store (rest (value_at (shown held) x))).entries (after (Reads x line) held); reached = (over store (rest (value_at (shown held) x))).reached }) (shows (Reads x line) held)
over-any shown after shows held (define x z line rest) =
    over-any shown after shows (after (Defines x z line) held) rest
    ∙ ap (λ store. record { meaning = after_entries after (over store rest).entries (after (Defines x z line) held); reached = (over store rest).reached }) (shows (Defines x z line) held)
over-any shown after shows held (undefine x line rest) =
    over-any shown after shows (after (Undefines x line) held) rest
    ∙ ap (λ store. record { meaning = after_entries after (over store rest).entries (after (Undefines x line) held); reached = (over store rest).reached }) (shows (Undefines x line) held)
over-any shown after shows held (contribute x op z rest) =
    over-any shown after shows (after (Contributes x op z) held) rest
    ∙ ap (λ store. record { meaning = after_entries after (over store rest).entries (after (Contributes x op z) held); reached = (over store rest).reached }) (shows (Contributes x op z) held)
over-any shown after shows held (ask variable rest) = over-any shown after shows held (rest (bounds_of (shown held) variable))
over-any shown after shows held (pause event rest) = refl
