pub mod SideInfo
