use Rattle.std.proofs.Common.{◌≡◌, ◌∙◌, sym, inl, inr, Some, None, refl}
use Rattle.chart_dev.proofs.FileLemmas.{contents-found, stored-found, contents-absent, stored-absent, bytes-there, is-there}
use Rattle.chart_dev.specs.Files.{files_of}
use Rattle.chart_dev.specs.Memory.{contents}
use Rattle.chart_dev.proofs.mem_shelf.MemShelfShelf.read_at.Goals as goal

pub returns-in_default-clause-cause : goal.returns-in_default-clause-cause
returns-in_default-clause-cause c =
    inr (rw (← c.self.view_is) (contents-absent (files_of c.self.inside.files.entries) c.args.name.now (stored-absent c.self.inside.files c.args.name.now (rw c.in_default.is at c.get.ensures.value))))

pub returns-in_default-clause-fails : goal.returns-in_default-clause-fails
returns-in_default-clause-fails c =
    inl (rw (← c.self.view_is) (stored-absent c.self.inside.files c.args.name.now (rw c.in_default.is at c.get.ensures.value)), refl)

pub returns-then-count-clause-missing : goal.returns-then-count-clause-missing
returns-then-count-clause-missing c = rw (← c.self.view_is) (λ none.
    let there = contents-found c.self.inside.files c.args.name.now c.in-Some.store.now c.in-Some.ensures.value in
    let clash : Some c.in-Some.store.now.bytes ≡ None = sym there ∙ none in cc)

pub returns-clause-bytes : goal.returns-clause-bytes
returns-clause-bytes c =
    let held = contents (files_of c.self.inside.files.entries) in
    let there = contents-found c.self.inside.files c.args.name.now c.in-Some.store.now c.in-Some.ensures.value in
    rw (← c.self.view_is) (
      is-there held c.args.name.now c.in-Some.store.now.bytes there,
      rw (bytes-there held c.args.name.now c.in-Some.store.now.bytes there) (rw (← c.bytes-held.ensures.bytes) c.copy_from.ensures.reads),
    )

pub returns-clause-missing : goal.returns-clause-missing
returns-clause-missing c = rw (← c.self.view_is) (λ none.
    let there = contents-found c.self.inside.files c.args.name.now c.in-Some.store.now c.in-Some.ensures.value in
    let clash : Some c.in-Some.store.now.bytes ≡ None = sym there ∙ none in cc)

pub returns-clause-count : goal.returns-clause-count
returns-clause-count c =
    rw (← c.self.view_is) (rw (stored-found c.self.inside.files c.args.name.now c.in-Some.store.now c.in-Some.ensures.value) (rw c.bytes-held.ensures.bytes at c.copy_from.ensures.count))
