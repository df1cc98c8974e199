-- `decimals::float::quotient` meets its contract. Assumes nothing.
use Rattle.decimals.proofs.Quotients.{divided_number, divided_bits}
use Rattle.decimals.proofs.float.quotient.Goals as goal

pub float_to_bits-result : goal.float_to_bits-result
float_to_bits-result c = search divided_number

pub returns : goal.returns
returns c = search divided_bits
