-- `byte_fields::write::put_u16` meets its contract. Assumes nothing.
use mathlib.Core.Path.{◌∙◌, refl}
use Rattle.byte_fields.specs.Bytes.{le16}
use Rattle.byte_fields.proofs.Storage.{placed_part}
use Rattle.byte_fields.proofs.Written.{bytes_16}
use Rattle.byte_fields.proofs.write.put_u16.Goals as goal

pub returns : goal.returns
unfolding le16
returns c = placed_part _ _ _ _ _ (c.copy_from_slice.ensures.after ∙ c.to_le_bytes.ensures ∙ bytes_16 _) refl
