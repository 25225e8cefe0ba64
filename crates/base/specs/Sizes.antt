-- Document 01, "Memory of one card": "Sector 512, erase group 4,096, protection group 8,192, physical read block 2,048 bytes".
-- Assumes nothing.
use Rattle.std.specs.Prelude.{ℕ}

abbrev pub sector_size : ℕ
sector_size = 512

abbrev pub erase_group_size : ℕ
erase_group_size = 4096

abbrev pub protection_group_size : ℕ
protection_group_size = 8192

abbrev pub read_block_size : ℕ
read_block_size = 2048
