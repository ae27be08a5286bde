use Rattle.std.proofs.Common.{◌≡◌, ◌∙◌, ap, w64, to_z, of_z, arith}
use Rattle.std.proofs.lemmas.Grind.{common_steps}
use Rattle.std.proofs.lemmas.Int.{to_z-of_z}
use Rattle.qz_checkin.specs.Rows.{state_moment}
use Rattle.qz_checkin.specs.Valid.{node_of}
use Rattle.qz_checkin.specs.InMemory.{tables_in}
use Rattle.qz_checkin.specs.Edits.{accepted_as, valid_after}
use Rattle.qz_checkin.proofs.rows.States.apply_reserved.Goals as goal

pub invariant_of-self : goal.invariant_of-self
invariant_of-self c =
    let same : to_z w64 (of_z w64 c.moment-moment.result) ≡ c.moment-moment.result = grind (arith, common_steps, to_z-of_z) in
    let read : to_z w64 (of_z w64 c.entry.inside.at) ≡ c.args.entry.now.at = grind (arith, common_steps, to_z-of_z) in
    let named_is : c.entry.inside.command ≡ c.args.entry.now.command = grind (arith, common_steps, to_z-of_z) in
    record {
      valid = valid_after (tables_in c.args.self.now) _ c.args.entry.now
          (accepted_as (tables_in c.args.self.now) c.args.entry.now _ _ c.named.result.now c.args.row c.requires.accepted (same ∙ c.moment-moment.ensures.value ∙ ap (state_moment (tables_in c.args.self.now)) read) (c.named.ensures ∙ ap node_of named_is) c.requires.row c.edit.ensures)
          c.args.self.now.valid;
    }

pub returns : goal.returns
returns c =
    let same : to_z w64 (of_z w64 c.moment-moment.result) ≡ c.moment-moment.result = grind (arith, common_steps, to_z-of_z) in
    let read : to_z w64 (of_z w64 c.entry.inside.at) ≡ c.args.entry.now.at = grind (arith, common_steps, to_z-of_z) in
    let named_is : c.entry.inside.command ≡ c.args.entry.now.command = grind (arith, common_steps, to_z-of_z) in
    accepted_as (tables_in c.args.self.now) c.args.entry.now _ _ c.named.result.now c.args.row c.requires.accepted (same ∙ c.moment-moment.ensures.value ∙ ap (state_moment (tables_in c.args.self.now)) read) (c.named.ensures ∙ ap node_of named_is) c.requires.row c.edit.ensures
